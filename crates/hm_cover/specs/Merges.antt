-- That merges of any number of regions keep a table's ranges, whatever requests may ask for.
use Rattle.std.specs.Prelude.{◌≡◌, ◌≢◌, ℕ, ◌≤◌, List, [], ◌∷◌, None}
use Rattle.hm_names.specs.Region.{Region}
use Rattle.hm_names.specs.declared.table.TableName.{TableName}
use Rattle.hm_data.specs.declared.catalog.CatKey.TheVariants as key_is
use Rattle.hm_model.specs.Catalog.{Catalog, edited}
use Rattle.hm_model.specs.Changes.{merge_edits, region_key}
use Rattle.hm_model.specs.Checks.{can_merge}
use Rattle.hm_model.specs.Locks.{IsIn}
use Rattle.hm_model.specs.Ranges.{IsCovered, NoneOverlap}
use Rattle.hm_cover.specs.Theorem.{RangesHaveKeys}

-- regions of the table, each once
abbrev pub AreOf : TableName → List Region → Type 0
AreOf table [] = Unit {0}
AreOf table (region ∷ more) = (region.table ≡ table) × (IsIn region more → ⊥) × AreOf table more

-- a table that is there, whose live regions have keys, don't overlap and cover every key; its regions' ids end somewhere
pub record HasRanges (there : Catalog) (table : TableName) : Type 0 where
  pub present : there (key_is.Table table) ≢ None
  pub keyed : RangesHaveKeys there table
  pub apart : NoneOverlap there table
  pub covered : IsCovered there table
  pub ends : (n : ℕ) × ((id : ℕ) → n ≤ id → there (region_key table id) ≡ None)

-- regions that can be merged, under an id that has no row, leave their table so
abbrev pub MergesKeepRanges : Type 0
MergesKeepRanges =
    (there : Catalog) (table : TableName) (regions : List Region) (first : ℕ) → AreOf table regions → regions ≢ []
    → can_merge (there (key_is.Table table)) there regions ≡ None → there (region_key table first) ≡ None
    → HasRanges there table → HasRanges (λ key. edited (merge_edits there regions first) key (there key)) table
