use Rattle.std.proofs.Common.{◌≡◌, ◌-◌, ◌++◌, take, drop, vec_len}
use Rattle.std.specs.Vec.{vec_capacity}
use Rattle.hm_clock.proofs.Turned.{turned}
use Rattle.hm_clock.proofs.clock.turn_back.Given as goal

abbrev pub invariant-loop-at : goal.invariant-loop-at
invariant-loop-at l = record {
  items : l.woken.items ≡ take l.from l.fn.woken.items ++ turned l.low (l.at - l.from) (drop l.from l.fn.woken.items);
  capacity : vec_capacity l.woken ≡ vec_capacity l.fn.woken;
  long : vec_len l.woken ≡ vec_len l.fn.woken;
}
