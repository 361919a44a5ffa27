use Rattle.std.proofs.Common.{◌≡◌, ◌++◌, take}
use Rattle.std.specs.Prelude.{vec_capacity}
use Rattle.hm_log.proofs.run.put.Given as goal

abbrev pub invariant-loop-byte : goal.invariant-loop-byte
invariant-loop-byte l = record {
  capacity : vec_capacity l.out ≡ vec_capacity l.fn.out;
  items : l.out.items ≡ l.fn.out.items ++ take l.byte-index l.bytes;
}
