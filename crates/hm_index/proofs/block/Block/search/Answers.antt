use Rattle.std.proofs.Common.{rules}
use Rattle.std.proofs.lemmas.Fn.{always_returns_same}
use Rattle.hm_index.specs.Blocks.{mark_rank, rank_at}
use Rattle.hm_index.proofs.block.Block.search.Goals as goal

pub returns-clause-position : goal.returns-clause-position
returns-clause-position g c =
    let facts = rw c.deref.ensures.value at c.binary_search_by.ensures in
    rw (← c.self.view_is) (facts.position (mark_rank (rank_at g.K.Ord.cmp c.args.pairs.now (g.S.Sought.stands_for c.args.key.now)) c.args.hint) (always_returns_same _ _ _ (λ a r h called. search rules)))
