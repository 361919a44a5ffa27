use Rattle.std.proofs.Common.{◌≡◌, ◌++◌, length, take, drop}
use Rattle.hm_disk.specs.Memory.{filled}
use Rattle.hm_disk.proofs.room.shade.Given as goal

abbrev pub invariant-loop-i : goal.invariant-loop-i
invariant-loop-i l = record { so_far : take l.i l.bytes ++ filled l.by (drop l.i l.marks) (drop l.i l.bytes) ≡ filled l.by l.marks l.initial.bytes; size : length l.bytes ≡ length l.initial.bytes }
