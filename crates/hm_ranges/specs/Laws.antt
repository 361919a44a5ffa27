-- What the ranges of a table's live regions tell.
use Rattle.std.specs.Prelude.{◌≡◌, ◌↔◌, ℕ, List, Option, None}
use Rattle.hm_names.specs.Region.{Region}
use Rattle.hm_names.specs.declared.range.KeyRange.{KeyRange}
use Rattle.hm_names.specs.declared.table.TableName.{TableName}
use Rattle.hm_data.specs.declared.catalog.Status.{Status}
use Rattle.hm_data.specs.declared.catalog.Status.TheVariants as status_is
use Rattle.hm_model.specs.Base.{RangeFits}
use Rattle.hm_model.specs.Catalog.{Catalog, cat}
use Rattle.hm_model.specs.Journal.{Past}
use Rattle.hm_model.specs.Locks.{IsIn}
use Rattle.hm_model.specs.Ranges.{IsCovered, IsLiveWith}
use Rattle.hm_ranges.specs.Holes.{IsLeast}
use Rattle.hm_ranges.specs.Ranges.{FitsAmong}

-- the ranges are those of the live regions of a table
abbrev pub AreLiveOf : Catalog → TableName → List KeyRange → Type 0
AreLiveOf there table ranges =
    (range : KeyRange) → IsIn range ranges ↔ ((region : Region) × (region.table ≡ table) × IsLiveWith there region range)

-- they leave no key out exactly if the table is covered
abbrev pub TellCover : Type 0
TellCover =
    (there : Catalog) (table : TableName) (ranges : List KeyRange) → AreLiveOf there table ranges
    → (least : Option (List ℕ)) → IsLeast ranges least → (least ≡ None) ↔ IsCovered there table

-- a range fits among them exactly if a base may have it for a live region of the table
abbrev pub TellFit : Type 0
TellFit =
    (before : Past) (region : Region) (ranges : List KeyRange) → AreLiveOf (cat before) region.table ranges
    → (range : KeyRange) (status : Status) → RangeFits before region range status ↔ (status ≡ status_is.Live → FitsAmong ranges range)
