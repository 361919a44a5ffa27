-- What holds of the regions of every legal journal.
use Rattle.hm_model.specs.Base.{HasNoHalfBase}
use Rattle.std.specs.Prelude.{◌≡◌, ◌≢◌, ℕ, ◌≤◌, None, true}
use Rattle.hm_names.specs.Ranges.{holds}
use Rattle.hm_names.specs.Region.{Region}
use Rattle.hm_names.specs.declared.range.KeyRange.{KeyRange}
use Rattle.hm_names.specs.declared.table.TableName.{TableName}
use Rattle.hm_data.specs.declared.catalog.CatKey.TheVariants as key_is
use Rattle.hm_model.specs.Catalog.{Catalog, cat}
use Rattle.hm_model.specs.Journal.{Past}
use Rattle.hm_model.specs.Ranges.{IsBare, IsCovered, IsLiveWith, NoneOverlap}
use Rattle.hm_model.specs.Reads.{IsBusy}
use Rattle.hm_model.specs.Rules.{IsLegal}
use Rattle.hm_model.specs.Serial.{serial}

-- in the catalog of the deeds live regions of one table never overlap and cover every key, and a table that isn't there has
-- no region's row
abbrev pub DeedsKeepRanges : Type 0
DeedsKeepRanges =
    (J : Past) → IsLegal J → HasNoHalfBase J → (table : TableName)
    → NoneOverlap (serial J) table
    × (serial J (key_is.Table table) ≢ None → IsCovered (serial J) table)
    × (serial J (key_is.Table table) ≡ None → IsBare (serial J) table)

-- where no unfinished procedure with a step asks for a table alone and the table is there, each key lies in a live region
abbrev pub LiveRegionsCover : Type 0
LiveRegionsCover =
    (J : Past) → IsLegal J → HasNoHalfBase J → (table : TableName) → (IsBusy J (key_is.Table table) → ⊥) → cat J (key_is.Table table) ≢ None
    → IsCovered (cat J) table

-- where none does and the table isn't there, it has no region's row
abbrev pub MissingTablesAreBare : Type 0
MissingTablesAreBare =
    (J : Past) → IsLegal J → HasNoHalfBase J → (table : TableName) → (IsBusy J (key_is.Table table) → ⊥) → cat J (key_is.Table table) ≡ None
    → IsBare (cat J) table

-- the range of each live region of a table has a key: its start lies in it, below its end or with an open end
abbrev pub RangesHaveKeys : Catalog → TableName → Type 0
RangesHaveKeys there table =
    (region : Region) (range : KeyRange) → region.table ≡ table → IsLiveWith there region range → holds range range.start ≡ true

-- so it is at any moment, and in the catalog of the deeds
abbrev pub LiveRangesHaveKeys : Type 0
LiveRangesHaveKeys = (J : Past) → IsLegal J → (table : TableName) → RangesHaveKeys (cat J) table × RangesHaveKeys (serial J) table

-- live regions of one table never overlap, at any moment
abbrev pub LiveRegionsNeverOverlap : Type 0
LiveRegionsNeverOverlap = (J : Past) → IsLegal J → (table : TableName) → NoneOverlap (cat J) table
