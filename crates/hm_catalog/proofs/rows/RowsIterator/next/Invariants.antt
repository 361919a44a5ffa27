use Rattle.std.proofs.Common.{◌≡◌, length}
use Rattle.hm_catalog.specs.Kept.{present}
use Rattle.hm_catalog.proofs.rows.RowsIterator.next.Given as goal

abbrev pub invariant-loop-pair : goal.invariant-loop-pair
invariant-loop-pair l = present l.self-inside.pairs ≡ l.fn.self

abbrev pub decreases-loop-pair : goal.decreases-loop-pair
decreases-loop-pair l = length l.self-inside.pairs
