use Rattle.std.proofs.Common.{◌+◌, Ok, Err, ap, arith}
use Rattle.hm_index.specs.Blocks.{OrderView, laid, mark_rank, rank_at, start}
use Rattle.hm_index.proofs.Laid.{taken, ends, found_in, absent_in}
use Rattle.hm_index.proofs.Marks.{hinted_search}
use Rattle.hm_index.proofs.order.Order.search.Goals as goal

pub returns-in-Ok-clause-found : goal.returns-in-Ok-clause-found
returns-in-Ok-clause-found g c =
    let same = ap (λ (t : OrderView). t.blocks) c.self.view_is in
    let lt = c.block_for-block.ensures.within in
    let block = taken c.self.inside.blocks.items c.args.self.now.blocks c.block_for-block.result c.index.result.now same lt c.index.ensures in
    let within = rw block at c.in-Ok.ensures.range in
    let inner = rw block at c.in-Ok.ensures.position in
    let key = g.S.Sought.stands_for c.args.key.now in
    let ranks = mark_rank (rank_at g.K.Ord.cmp c.args.pairs.now key) (g.K.Hinted.hint_of key) in
    let found = found_in ranks c.args.self.now.blocks c.block_for-block.result lt c.in-Ok.at within (rw c.hint-hint.ensures at inner) in
    record {
      block = lt;
      within = within;
      limit = c.in-Ok.ensures.limit;
      result = hinted_search g.K.Ord.cmp g.met.K.Ord.total g.K.Hinted.hint_of g.met.K.Hinted.rises c.args.pairs.now (laid c.args.self.now.blocks) c.requires key (Ok (start c.args.self.now.blocks c.block_for-block.result + c.in-Ok.at))
          (omega (arith, within, ends c.args.self.now.blocks c.block_for-block.result lt)) found;
    }

pub returns-in-Err-clause-absent : goal.returns-in-Err-clause-absent
returns-in-Err-clause-absent g c =
    let same = ap (λ (t : OrderView). t.blocks) c.self.view_is in
    let lt = c.block_for-block.ensures.within in
    let block = taken c.self.inside.blocks.items c.args.self.now.blocks c.block_for-block.result c.index.result.now same lt c.index.ensures in
    let within = rw block at c.in-Err.ensures.range in
    let inner = rw block at c.in-Err.ensures.position in
    let packed = rw same at c.self.invariant.0 in
    let key = g.S.Sought.stands_for c.args.key.now in
    let ranks = mark_rank (rank_at g.K.Ord.cmp c.args.pairs.now key) (g.K.Hinted.hint_of key) in
    let absent = absent_in ranks c.args.self.now.blocks c.block_for-block.result lt packed (rw c.hint-hint.ensures at c.block_for-block.ensures.block) c.in-Err.at within (rw c.hint-hint.ensures at inner) in
    record {
      spot = record { block = lt; within = within };
      result = hinted_search g.K.Ord.cmp g.met.K.Ord.total g.K.Hinted.hint_of g.met.K.Hinted.rises c.args.pairs.now (laid c.args.self.now.blocks) c.requires key (Err (start c.args.self.now.blocks c.block_for-block.result + c.in-Err.at))
          (omega (arith, within, ends c.args.self.now.blocks c.block_for-block.result lt)) absent;
    }
