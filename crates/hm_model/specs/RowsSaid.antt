-- What rows of the catalog say.
use Rattle.std.specs.Prelude.{ℕ, List, [], ◌∷◌, Option, Some, None, Bool, true, false, ◌==◌, ◌&&◌, if◌then◌else◌}
use Rattle.std.specs.Str.{bytes_eq}
use Rattle.hm_names.specs.Region.{Region}
use Rattle.hm_names.specs.declared.range.KeyRange.{KeyRange}
use Rattle.hm_names.specs.declared.table.TableName.{TableName}
use Rattle.hm_data.specs.Numbers.{table_state_number, status_number}
use Rattle.hm_data.specs.declared.catalog.CatKey.{CatKey}
use Rattle.hm_data.specs.declared.catalog.CatKey.TheVariants as key_is
use Rattle.hm_data.specs.declared.catalog.CatRow.{CatRow}
use Rattle.hm_data.specs.declared.catalog.CatRow.TheVariants as row_is
use Rattle.hm_data.specs.declared.catalog.Status.{Status}
use Rattle.hm_data.specs.declared.catalog.Status.TheVariants as status_is
use Rattle.hm_data.specs.declared.catalog.TableState.{TableState}
use Rattle.hm_model.specs.Keys.{same_table}

-- rows of the catalog with their keys, in key order
abbrev pub Rows : Type 0
Rows = List (CatKey × CatRow)

-- one state of a table
abbrev pub same_state : TableState → TableState → Bool
same_state a b = table_state_number a == table_state_number b

-- one status of a region
abbrev pub same_status : Status → Status → Bool
same_status a b = status_number a == status_number b

-- the state of a table, by its row
abbrev pub table_state_in : Option CatRow → Option TableState
table_state_in None = None
table_state_in (Some row_is.Ns) = None
table_state_in (Some (row_is.Table state version)) = Some state
table_state_in (Some (row_is.Region range status parents)) = None

-- the status of a region, by its row
abbrev pub status_in : Option CatRow → Option Status
status_in None = None
status_in (Some row_is.Ns) = None
status_in (Some (row_is.Table state version)) = None
status_in (Some (row_is.Region range status parents)) = Some status

-- the range of a region, by its row
abbrev pub range_in : Option CatRow → Option KeyRange
range_in None = None
range_in (Some row_is.Ns) = None
range_in (Some (row_is.Table state version)) = None
range_in (Some (row_is.Region range status parents)) = Some range

-- a table is in a state
abbrev pub is_in_state : TableState → Option TableState → Bool
is_in_state wanted None = false
is_in_state wanted (Some state) = same_state wanted state

-- a region is there, and live
abbrev pub is_live_status : Option Status → Bool
is_live_status None = false
is_live_status (Some status) = same_status status status_is.Live

-- a key of a table of the namespace
abbrev pub is_table_in : List ℕ → CatKey → Bool
is_table_in ns (key_is.Table table) = bytes_eq ns table.ns
is_table_in ns key = false

-- a region in front of others, where it is of the table and its row passes the test
abbrev pub keep_region : TableName → (CatRow → Bool) → CatKey → CatRow → List Region → List Region
keep_region table test (key_is.Region region) row more =
    if same_table table region.table && test row then (region ∷ more) else more
keep_region table test key row more = more

-- the regions of a table among rows, in the order of the rows, whose rows pass the test
abbrev pub regions_among : TableName → (CatRow → Bool) → Rows → List Region
regions_among table test [] = []
regions_among table test ((key, row) ∷ rows) = keep_region table test key row (regions_among table test rows)

-- the live ones
abbrev pub live_among : TableName → Rows → List Region
live_among table rows = regions_among table (λ row. is_live_status (status_in (Some row))) rows

-- all of them
abbrev pub all_among : TableName → Rows → List Region
all_among table rows = regions_among table (λ row. true) rows

-- a table's row in another state, with its version; other rows as they are
abbrev pub in_state : TableState → CatRow → CatRow
in_state state row_is.Ns = row_is.Ns
in_state state (row_is.Table was version) = row_is.Table state version
in_state state (row_is.Region range status parents) = row_is.Region range status parents

-- a table's row with another version, in its state; other rows as they are
abbrev pub in_version : ℕ → CatRow → CatRow
in_version version row_is.Ns = row_is.Ns
in_version version (row_is.Table state was) = row_is.Table state version
in_version version (row_is.Region range status parents) = row_is.Region range status parents

-- a region's row with another status; other rows as they are
abbrev pub in_status : Status → CatRow → CatRow
in_status status row_is.Ns = row_is.Ns
in_status status (row_is.Table state version) = row_is.Table state version
in_status status (row_is.Region range was parents) = row_is.Region range status parents
