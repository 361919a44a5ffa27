-- The keys that the live regions of tables leave out.
use Rattle.std.specs.Prelude.{◌≡◌, ◌⊎◌, ℕ, List, [], ◌∷◌, Some}
use Rattle.hm_names.specs.declared.table.TableName.{TableName}
use Rattle.hm_data.specs.declared.catalog.CatKey.{CatKey}
use Rattle.hm_data.specs.declared.catalog.CatKey.TheVariants as key_is
use Rattle.hm_data.specs.declared.catalog.CatRow.{CatRow}
use Rattle.hm_data.specs.declared.catalog.CatRow.TheVariants as row_is
use Rattle.hm_model.specs.RowsSaid.{Rows}
use Rattle.hm_ranges.specs.Holes.{IsLeast}
use Rattle.hm_ranges.specs.Live.{ranges_in}
use Rattle.hm_hbck.specs.declared.finding.Finding.{Finding}
use Rattle.hm_hbck.specs.declared.finding.Finding.TheVariants as finding_is

-- the hole of a table
abbrev pub IsHoleOf : Rows → TableName → Finding → Type 0
IsHoleOf rows table finding = (key : List ℕ) × (finding ≡ finding_is.Hole table key) × IsLeast (ranges_in rows table) (Some key)

-- the hole of a row's table
abbrev pub IsHoleAt : Rows → CatKey → CatRow → Finding → Type 0
IsHoleAt rows (key_is.Table table) (row_is.Table state version) finding = IsHoleOf rows table finding
IsHoleAt rows key row finding = ⊥

-- the hole of one of some rows' tables
abbrev pub IsHoleAmong : Rows → Rows → Finding → Type 0
IsHoleAmong rows [] finding = ⊥
IsHoleAmong rows ((key, row) ∷ more) finding = IsHoleAt rows key row finding ⊎ IsHoleAmong rows more finding
