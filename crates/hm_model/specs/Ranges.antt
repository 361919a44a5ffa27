-- The live regions of a table, and their ranges.
use Rattle.std.specs.Prelude.{◌≡◌, ◌≢◌, ℕ, List, Some, None, true, false}
use Rattle.std.specs.List.{filter_map}
use Rattle.hm_names.specs.Ranges.{overlaps, holds}
use Rattle.hm_names.specs.Region.{Region}
use Rattle.hm_names.specs.declared.range.KeyRange.{KeyRange}
use Rattle.hm_names.specs.declared.table.TableName.{TableName}
use Rattle.hm_data.specs.declared.catalog.CatKey.TheVariants as key_is
use Rattle.hm_data.specs.declared.catalog.CatRow.TheVariants as row_is
use Rattle.hm_data.specs.declared.catalog.Status.TheVariants as status_is
use Rattle.hm_model.specs.Catalog.{Catalog, cat, keys_of}
use Rattle.hm_model.specs.Journal.{Past}
use Rattle.hm_model.specs.Costs.{region_rows}
use Rattle.hm_model.specs.RowsSaid.{range_in, live_among}

-- a live region of a catalog, with its range
abbrev pub IsLiveWith : Catalog → Region → KeyRange → Type 0
IsLiveWith there region range =
    (parents : List ℕ) × (there (key_is.Region region) ≡ Some (row_is.Region range status_is.Live parents))

-- the live regions of a table don't overlap
abbrev pub NoneOverlap : Catalog → TableName → Type 0
NoneOverlap there table =
    (a b : Region) (one other : KeyRange) → a.table ≡ table → b.table ≡ table → a ≢ b
    → IsLiveWith there a one → IsLiveWith there b other → overlaps one other ≡ false

-- each key lies in a live region of the table
abbrev pub IsCovered : Catalog → TableName → Type 0
IsCovered there table =
    (key : List ℕ) → (region : Region) × (range : KeyRange)
    × (region.table ≡ table) × IsLiveWith there region range × (holds range key ≡ true)

-- a table has no region's row
abbrev pub IsBare : Catalog → TableName → Type 0
IsBare there table = (region : Region) → region.table ≡ table → there (key_is.Region region) ≡ None

-- the ranges of a table's live regions, in name order
abbrev pub live_ranges : Past → TableName → List KeyRange
live_ranges J table =
    filter_map (λ region. range_in (cat J (key_is.Region region))) (live_among table (region_rows table (keys_of J) (cat J)))
