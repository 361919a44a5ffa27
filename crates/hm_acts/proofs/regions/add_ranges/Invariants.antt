use Rattle.std.proofs.Common.{◌≡◌, ◌+◌, ◌++◌, drop}
use Rattle.hm_model.specs.Catalog.{row_at}
use Rattle.hm_model.specs.Changes.{add_ranges}
use Rattle.hm_acts.proofs.regions.add_ranges.Given as goal

abbrev pub invariant-loop-range : goal.invariant-loop-range
invariant-loop-range l = record {
  so_far : l.edits.items ++ add_ranges (row_at l.rows) l.table l.id (drop l.range-index l.ranges) ≡ add_ranges (row_at l.rows) l.table l.first l.ranges;
  next : l.id ≡ l.first + l.range-index;
}
