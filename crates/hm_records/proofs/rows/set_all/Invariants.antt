use Rattle.std.proofs.Common.{◌≡◌, ◌+◌, ◌≤◌, length}
use Rattle.hm_catalog.specs.Rows.{with_edits}
use Rattle.hm_records.proofs.rows.set_all.Given as goal

abbrev pub invariant-loop-edit : goal.invariant-loop-edit
invariant-loop-edit l = record {
  rows : l.catalog.rows ≡ with_edits l.yielded l.fn.catalog.rows;
  spare : l.fn.catalog.spare ≤ l.catalog.spare + length l.yielded;
  room : l.catalog.room ≡ l.fn.catalog.room;
}
