use Rattle.std.proofs.Common.{◌<◌, ◌≤◌, length, ap, refl, sym, ◌∙◌}
use Rattle.hm_index.specs.Blocks.{OrderView, block_at}
use Rattle.hm_index.proofs.Laid.{taken, laid-put, packed-put}
use Rattle.hm_index.proofs.Marks.{firsts-put}
use Rattle.hm_index.proofs.order.Order.insert.Goals as goal

pub invariant_of-self : goal.invariant_of-self
invariant_of-self c =
    let f = c.self.inside in
    let same = ap (λ (t : OrderView). t.blocks) c.self.view_is in
    let lt : c.with_room-spot.result.block < length f.blocks.items = rw same c.with_room-spot.ensures.spot.block in
    let within : c.with_room-spot.result.at ≤ length (block_at f.blocks.items c.with_room-spot.result.block) = rw same c.with_room-spot.ensures.spot.within in
    let block = taken f.blocks.items f.blocks.items c.with_room-spot.result.block c.index_mut-block.result.now refl lt c.index_mut-block.ensures.value in (
      rw (c.put.ensures, block) (packed-put f.blocks.items c.with_room-spot.result.block c.with_room-spot.result.at c.args.mark c.self.invariant.0 lt within),
      c.self.invariant.1,
      rw (c.keep_lead.ensures.items, c.put.ensures, block, c.self.invariant.2) (sym (firsts-put f.blocks.items c.with_room-spot.result.block c.with_room-spot.result.at c.args.mark lt within)),
    )

pub returns-clause-order : goal.returns-clause-order
returns-clause-order c =
    let f = c.self.inside in
    let same = ap (λ (t : OrderView). t.blocks) c.self.view_is in
    let lt : c.with_room-spot.result.block < length f.blocks.items = rw same c.with_room-spot.ensures.spot.block in
    let within : c.with_room-spot.result.at ≤ length (block_at f.blocks.items c.with_room-spot.result.block) = rw same c.with_room-spot.ensures.spot.within in
    let block = taken f.blocks.items f.blocks.items c.with_room-spot.result.block c.index_mut-block.result.now refl lt c.index_mut-block.ensures.value in
    rw (c.put.ensures, block) (laid-put f.blocks.items c.with_room-spot.result.block c.with_room-spot.result.at c.args.mark lt within ∙ rw (same, c.with_room-spot.ensures.order, c.with_room-spot.ensures.same) refl)
