use Rattle.std.proofs.Common.{◌≡◌, ◌+◌, [], length, if◌then◌else◌}
use Rattle.hm_catalog.specs.Kept.{rows_ahead}
use Rattle.hm_catalog.specs.Spans.{in_span}
use Rattle.hm_catalog.proofs.span.RowsOfIterator.next.Given as goal

abbrev pub invariant-loop-self : goal.invariant-loop-self
invariant-loop-self l =
    (if l.self-inside.ended then [] else rows_ahead (in_span l.self-inside.span) l.self-inside.pairs) ≡ l.fn.self

abbrev pub decreases-loop-self : goal.decreases-loop-self
decreases-loop-self l = if l.self-inside.ended then 0 else length l.self-inside.pairs + 1
