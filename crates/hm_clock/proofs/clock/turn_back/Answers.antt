use Rattle.std.proofs.Common.{arith}
use Rattle.hm_clock.proofs.Turned.{turned_more}
use Rattle.hm_clock.proofs.clock.turn_back.Goals as goal

pub loop-at-preserved : goal.loop-at-preserved
loop-at-preserved c = record {
  items = turned_more c.args.low c.args.from c.loop-at.at c.args.woken.now.items c.loop-at.woken.items c.index-place.result.now (omega arith) (omega arith) c.loop-at.invariant.items c.index-place.ensures;
  capacity = c.loop-at.invariant.capacity;
  long = c.loop-at.invariant.long;
}
