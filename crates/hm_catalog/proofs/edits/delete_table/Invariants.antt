use Rattle.std.proofs.Common.{◌≡◌, ◌++◌, ◌∷◌, None}
use Rattle.hm_data.specs.declared.catalog.CatKey.TheVariants as key_is
use Rattle.hm_model.specs.Catalog.{row_at, set_to}
use Rattle.hm_model.specs.Changes.{remove_regions}
use Rattle.hm_model.specs.RowsSaid.{all_among}
use Rattle.hm_catalog.proofs.edits.delete_table.Given as goal

abbrev pub invariant-loop-region : goal.invariant-loop-region
invariant-loop-region l =
    l.edits.items ++ remove_regions (row_at l.catalog.rows) l.region-iterator ≡ set_to (row_at l.catalog.rows) (key_is.Table l.table) None ∷ remove_regions (row_at l.catalog.rows) (all_among l.table l.catalog.rows)
