use Rattle.std.proofs.Common.{ap, rules}
use Rattle.std.proofs.lemmas.Fn.{always_returns_same}
use Rattle.hm_index.specs.Blocks.{OrderView, mark_rank, rank_at}
use Rattle.hm_index.proofs.Laid.{all_from}
use Rattle.hm_index.proofs.Marks.{block_tied, block_below}
use Rattle.hm_index.proofs.order.Order.block_for.Goals as goal

pub returns-in-Ok-clause-block : goal.returns-in-Ok-clause-block
returns-in-Ok-clause-block g c =
    let same = ap (λ (t : OrderView). t.blocks) c.self.view_is in
    let ranks = mark_rank (rank_at g.K.Ord.cmp c.args.pairs.now (g.S.Sought.stands_for c.args.key.now)) c.args.hint in
    let facts = rw (c.deref.ensures.value, all_from c.self.inside.leads.items 1, c.self.invariant.2) at c.in-Ok.ensures in
    rw (← same) (block_tied ranks c.self.inside.blocks.items c.self.invariant.0 c.in-Ok.before facts.bound (facts.position ranks (always_returns_same _ _ _ (λ a r h called. search rules))))

pub returns-in-Err-clause-block : goal.returns-in-Err-clause-block
returns-in-Err-clause-block g c =
    let same = ap (λ (t : OrderView). t.blocks) c.self.view_is in
    let ranks = mark_rank (rank_at g.K.Ord.cmp c.args.pairs.now (g.S.Sought.stands_for c.args.key.now)) c.args.hint in
    let facts = rw (c.deref.ensures.value, all_from c.self.inside.leads.items 1, c.self.invariant.2) at c.in-Err.ensures in
    rw (← same) (block_below ranks c.self.inside.blocks.items c.self.invariant.0 c.in-Err.before facts.bound (facts.position ranks (always_returns_same _ _ _ (λ a r h called. search rules))))
