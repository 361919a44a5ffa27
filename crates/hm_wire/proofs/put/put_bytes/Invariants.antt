use Rattle.std.proofs.Common.{take}
use Rattle.hm_wire.specs.Room.{Puts}
use Rattle.hm_wire.proofs.put.put_bytes.Given as goal

abbrev pub invariant-loop-byte : goal.invariant-loop-byte
invariant-loop-byte l = Puts l.fn.out (take l.byte-index l.bytes) l.out
