use Rattle.std.proofs.Common.{◌≡◌, length}
use Rattle.hm_catalog.specs.Spans.{regions_in}
use Rattle.hm_catalog.proofs.rows.RegionsIterator.next.Given as goal

abbrev pub invariant-loop-key : goal.invariant-loop-key
invariant-loop-key l = regions_in l.self-inside.rows ≡ l.fn.self

abbrev pub decreases-loop-key : goal.decreases-loop-key
decreases-loop-key l = length l.self-inside.rows
