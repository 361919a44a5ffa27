-- What is inconsistent between a journal and the servers that run: the findings.
use Rattle.std.specs.Prelude.{◌≡◌, ◌≢◌, ℕ, List, Option, Some, None, Bool, true, false, ◌&&◌, ◌||◌, ◌⊎◌}
use Rattle.std.specs.declared.cmp.Ordering.TheVariants.{Less}
use Rattle.hm_names.specs.Order.{bytes_cmp, region_cmp, server_cmp}
use Rattle.hm_names.specs.Ranges.{overlaps, holds as range_holds}
use Rattle.hm_names.specs.Region.{Region}
use Rattle.hm_names.specs.Server.{Server}
use Rattle.hm_names.specs.declared.range.KeyRange.{KeyRange}
use Rattle.hm_names.specs.declared.table.TableName.{TableName}
use Rattle.hm_data.specs.declared.catalog.CatKey.TheVariants as key_is
use Rattle.hm_data.specs.declared.catalog.CatRow.TheVariants as row_is
use Rattle.hm_data.specs.declared.catalog.TableState.{TableState}
use Rattle.hm_data.specs.declared.place.RegionState.TheVariants as place_is
use Rattle.hm_model.specs.Actors.{Actor, holds}
use Rattle.hm_model.specs.Catalog.{cat}
use Rattle.hm_model.specs.Fleet.{is_fenced, is_live}
use Rattle.hm_model.specs.Journal.{Past}
use Rattle.hm_model.specs.Keys.{same_region, same_table}
use Rattle.hm_model.specs.Places.{is_at, place_of}
use Rattle.hm_model.specs.Ranges.{IsLiveWith}
use Rattle.hm_model.specs.RowsSaid.{range_in}
use Rattle.hm_model.specs.Single.{overlap_if}
use Rattle.hm_model.specs.TransitActs.{is_state}

-- the findings, in the order in which they are told
pub data Finding : Type 0 where
  Hole : (table : TableName) (key : List ℕ) → Finding
  Overlap : (a b : Region) → Finding
  NotHeld : (region : Region) (server : Server) → Finding
  NoActor : (region : Region) (server : Server) → Finding
  Stray : (region : Region) (server : Server) → Finding
  Twice : (a : Region) (at : Server) (b : Region) (other : Server) → Finding
  NoRow : (region : Region) (server : Server) → Finding
  DeadPlace : (region : Region) (server : Server) → Finding

-- the table has a row
abbrev pub HasRow : Past → TableName → Type 0
HasRow J table = (state : TableState) × (version : ℕ) × (cat J (key_is.Table table) ≡ Some (row_is.Table state version))

-- no live region of the table has the key
abbrev pub IsLeftOut : Past → TableName → List ℕ → Type 0
IsLeftOut J table key =
    (region : Region) (range : KeyRange) → region.table ≡ table → IsLiveWith (cat J) region range → range_holds range key ≡ false

-- a server that runs and isn't fenced in the journal holds the region
abbrev pub IsHolder : Past → (Server → Option Actor) → Region → Server → Type 0
IsHolder J actors region server =
    (actor : Actor) × (actors server ≡ Some actor) × (is_fenced J server ≡ false) × (holds actor region ≡ true)

-- the region is open there
abbrev pub IsOpenAt : Past → Region → Server → Type 0
IsOpenAt J region server = (is_state place_is.Opened (place_of J region) ≡ true) × ((place_of J region).server ≡ Some server)

-- one region, or two of one table whose rows' ranges overlap
abbrev pub rows_touch : Past → Region → Region → Bool
rows_touch J a b =
    same_region a b
    || (same_table a.table b.table && overlap_if (range_in (cat J (key_is.Region a))) (range_in (cat J (key_is.Region b))))

-- a region at a server comes before another
abbrev pub IsBefore : Region → Server → Region → Server → Type 0
IsBefore a at b other = (region_cmp a b ≡ Less) ⊎ ((a ≡ b) × (server_cmp at other ≡ Less))

-- what a finding says is so
abbrev pub IsSo : Past → (Server → Option Actor) → Finding → Type 0
IsSo J actors (Hole table key) =
    HasRow J table × IsLeftOut J table key × ((lesser : List ℕ) → bytes_cmp lesser key ≡ Less → IsLeftOut J table lesser → ⊥)
IsSo J actors (Overlap a b) =
    (region_cmp a b ≡ Less) × (a.table ≡ b.table) × (a ≢ b)
    × ((one other : KeyRange) × IsLiveWith (cat J) a one × IsLiveWith (cat J) b other × (overlaps one other ≡ true))
IsSo J actors (NotHeld region server) = IsOpenAt J region server × ((actor : Actor) × (actors server ≡ Some actor) × (holds actor region ≡ false))
IsSo J actors (NoActor region server) = IsOpenAt J region server × (is_live J server ≡ true) × (actors server ≡ None)
IsSo J actors (Stray region server) = IsHolder J actors region server × (is_at server (place_of J region) ≡ false)
IsSo J actors (Twice a at b other) =
    IsBefore a at b other × (rows_touch J a b ≡ true) × IsHolder J actors a at × IsHolder J actors b other
IsSo J actors (NoRow region server) =
    IsHolder J actors region server × ((range : KeyRange) → IsLiveWith (cat J) region range → ⊥)
IsSo J actors (DeadPlace region server) = (is_at server (place_of J region) ≡ true) × (is_live J server ≡ false)
