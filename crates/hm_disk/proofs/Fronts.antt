-- What a disk passes of the write that it cuts.
use Rattle.std.proofs.Common.{ℕ, ◌≤◌, arith}
use Rattle.std.specs.Prelude.{Option, Some, None}
use Rattle.hm_disk.specs.Cutting.{passed_by}
use Rattle.hm_disk.specs.declared.cut.Limit.{Limit}

-- no more than it was asked to write
pub within : (limit : Option Limit) (count : ℕ) → passed_by limit count ≤ count
within None count = omega arith
within (Some limit) count = omega arith
