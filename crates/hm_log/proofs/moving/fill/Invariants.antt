use Rattle.std.proofs.Common.{◌≡◌, length}
use Rattle.std.specs.Prelude.{vec_capacity}
use Rattle.hm_log.proofs.moving.fill.Given as goal

abbrev pub invariant-loop : goal.invariant-loop
invariant-loop l = record {
  capacity : vec_capacity l.buffer ≡ vec_capacity l.fn.buffer;
  long : length l.buffer.items ≡ l.counter;
}
