use Rattle.std.proofs.Common.{◌≡◌, length, ap, arith}
use Rattle.hm_index.specs.Blocks.{OrderView, block_at}
use Rattle.hm_index.proofs.Laid.{taken, behind_end}
use Rattle.hm_index.proofs.order.Order.following.Goals as goal

pub returns-clause-spot : goal.returns-clause-spot
returns-clause-spot c =
    let same = ap (λ (t : OrderView). t.blocks) c.self.view_is in
    let block = taken c.self.inside.blocks.items c.args.self.now.blocks c.args.spot.block c.index.result.now same c.requires.spot.block c.index.ensures in
    let end : c.args.spot.at ≡ length (block_at c.args.self.now.blocks c.args.spot.block) = omega (arith, ap length block, c.len.ensures.count, c.if-spot-len.false, c.requires.spot.within) in
    (behind_end c.args.self.now.blocks c.args.spot.block c.args.spot.at (rw same at c.self.invariant.0) c.requires.spot end c.requires.more).spot

pub returns-clause-next : goal.returns-clause-next
returns-clause-next c =
    let same = ap (λ (t : OrderView). t.blocks) c.self.view_is in
    let block = taken c.self.inside.blocks.items c.args.self.now.blocks c.args.spot.block c.index.result.now same c.requires.spot.block c.index.ensures in
    let end : c.args.spot.at ≡ length (block_at c.args.self.now.blocks c.args.spot.block) = omega (arith, ap length block, c.len.ensures.count, c.if-spot-len.false, c.requires.spot.within) in
    (behind_end c.args.self.now.blocks c.args.spot.block c.args.spot.at (rw same at c.self.invariant.0) c.requires.spot end c.requires.more).next
