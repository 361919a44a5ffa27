-- Runs of regions, and which rows count.
use Rattle.std.specs.Prelude.{ℕ, ◌+◌, List, [], ◌∷◌, Some, Bool, true, false, if◌then◌else◌}
use Rattle.hm_names.specs.Region.{Region}
use Rattle.hm_names.specs.declared.table.TableName.{TableName}
use Rattle.hm_data.specs.declared.catalog.CatRow.{CatRow}
use Rattle.hm_model.specs.Keys.{same_table}
use Rattle.hm_model.specs.RowsSaid.{is_live_status, status_in}

-- how many of the first regions are of a table
abbrev pub leading : TableName → List Region → ℕ
leading table [] = 0
leading table (region ∷ more) = if same_table table region.table then leading table more + 1 else 0

-- the rows of live regions alone, or all
abbrev pub row_counts : Bool → CatRow → Bool
row_counts true = λ row. is_live_status (status_in (Some row))
row_counts false = λ row. true
