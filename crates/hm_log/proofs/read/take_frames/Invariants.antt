use Rattle.std.proofs.Common.{◌≡◌, ◌≤◌, ◌++◌, ℕ, List, length}
use Rattle.std.specs.Prelude.{All}
use Rattle.hm_log.specs.Format.{spelled, IsFrame}
use Rattle.hm_log.proofs.read.take_frames.Given as goal

abbrev pub invariant-loop-rest : goal.invariant-loop-rest
invariant-loop-rest l = record {
  taken : (more : List (List ℕ)) × (l.frames ≡ l.fn.frames ++ more) × (l.bytes ≡ spelled more ++ l.rest) × All IsFrame more;
  some : 1 ≤ length l.rest;
}

abbrev pub decreases-loop-rest : goal.decreases-loop-rest
decreases-loop-rest l = length l.rest
