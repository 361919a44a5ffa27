use Rattle.std.proofs.Common.{◌≡◌, ◌++◌}
use Rattle.std.specs.List.{flat_map}
use Rattle.hm_image.specs.Catalog.{table_told}
use Rattle.hm_image.proofs.catalog.add_tables.Given as goal

abbrev pub invariant-loop-table : goal.invariant-loop-table
invariant-loop-table l =
    l.parts.items ++ flat_map (table_told l.catalog.rows) l.table-iterator ≡ l.initial.parts.items ++ flat_map (table_told l.catalog.rows) l.fn.tables
