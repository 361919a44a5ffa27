use Rattle.std.proofs.Common.{◌≡◌, length, ap, arith}
use Rattle.hm_index.specs.Blocks.{OrderView, block_at}
use Rattle.hm_index.proofs.Laid.{taken, laid-split, lower_spot, upper_spot}
use Rattle.hm_index.proofs.order.Order.with_room.Goals as goal

pub returns-then-spot-le-HALF : goal.returns-then-spot-le-HALF
returns-then-spot-le-HALF c =
    let same = ap (λ (t : OrderView). t.blocks) c.self.view_is in
    let old = c.args.self.now.blocks in
    let lt = c.requires.spot.block in
    let block = taken c.self.inside.blocks.items c.args.self.now.blocks c.args.spot.block c.index.result.now same lt c.index.ensures in
    let full : length (block_at c.args.self.now.blocks c.args.spot.block) ≡ 128 = omega (arith, ap length block, c.len-count.ensures.count, c.len-count.ensures.limit, c.if-count-lt-BLOCK.false) in
    let moved = lower_spot c.args.self.now.blocks c.args.spot.block c.args.spot.at 64 lt (omega arith) c.if-spot-le-HALF.true in
    record {
      order = rw c.split.ensures.blocks (laid-split c.args.self.now.blocks c.args.spot.block 64 lt);
      spot = rw c.split.ensures.blocks moved.spot;
      same = rw c.split.ensures.blocks moved.same;
      room = rw c.split.ensures.blocks (omega (arith, moved.size));
      spare = c.split.ensures.spare;
      memory = c.split.ensures.memory;
    }

pub returns : goal.returns
returns c =
    let same = ap (λ (t : OrderView). t.blocks) c.self.view_is in
    let lt = c.requires.spot.block in
    let block = taken c.self.inside.blocks.items c.args.self.now.blocks c.args.spot.block c.index.result.now same lt c.index.ensures in
    let full : length (block_at c.args.self.now.blocks c.args.spot.block) ≡ 128 = omega (arith, ap length block, c.len-count.ensures.count, c.len-count.ensures.limit, c.if-count-lt-BLOCK.false) in
    let moved = upper_spot c.args.self.now.blocks c.args.spot.block c.args.spot.at 64 lt (omega arith) (omega (arith, c.if-spot-le-HALF.false)) c.requires.spot.within in
    record {
      order = rw c.split.ensures.blocks (laid-split c.args.self.now.blocks c.args.spot.block 64 lt);
      spot = rw c.split.ensures.blocks moved.spot;
      same = rw c.split.ensures.blocks moved.same;
      room = rw c.split.ensures.blocks (omega (arith, moved.size));
      spare = c.split.ensures.spare;
      memory = c.split.ensures.memory;
    }
