use Rattle.std.proofs.Common.{◌≡◌, ◌+◌, ◌++◌, [], ◌∷◌, Some, drop}
use Rattle.hm_data.specs.declared.catalog.CatKey.TheVariants as key_is
use Rattle.hm_data.specs.declared.catalog.CatRow.TheVariants as row_is
use Rattle.hm_data.specs.declared.catalog.TableState.TheVariants as state_is
use Rattle.hm_model.specs.Catalog.{row_at, set_to}
use Rattle.hm_model.specs.Changes.{add_ranges}
use Rattle.hm_model.specs.Pieces.{ranges_from}
use Rattle.hm_catalog.proofs.edits.create_table.Given as goal

abbrev pub invariant-loop-end : goal.invariant-loop-end
invariant-loop-end l = record {
  made : l.edits.items ++ add_ranges (row_at l.catalog.rows) l.table l.id (ranges_from l.start (drop l.end-index l.keys ++ [] ∷ [])) ≡ set_to (row_at l.catalog.rows) (key_is.Table l.table) (Some (row_is.Table state_is.Enabled 1)) ∷ add_ranges (row_at l.catalog.rows) l.table l.first (ranges_from [] (l.keys ++ [] ∷ []));
  id : l.id ≡ l.first + l.end-index;
}
