-- What stands against a request, by the rows that it is about: the first cause.
use Rattle.std.specs.Prelude.{ℕ, List, [], ◌∷◌, length, Option, Some, None, Bool, true, not, ◌==◌, ◌&&◌, if◌then◌else◌, is_none}
use Rattle.std.specs.List.{list_any}
use Rattle.std.specs.Ordering.{is_le}
use Rattle.std.specs.Str.{bytes_eq}
use Rattle.hm_names.specs.Order.{bytes_cmp}
use Rattle.hm_names.specs.Ranges.{inner, joined}
use Rattle.hm_names.specs.Region.{Region}
use Rattle.hm_names.specs.declared.range.KeyRange.{KeyRange}
use Rattle.hm_data.specs.declared.answer.Cause.{Cause}
use Rattle.hm_data.specs.declared.answer.Cause.TheVariants as cause_is
use Rattle.hm_data.specs.declared.catalog.CatKey.TheVariants as key_is
use Rattle.hm_data.specs.declared.catalog.CatRow.{CatRow}
use Rattle.hm_data.specs.declared.catalog.TableState.{TableState}
use Rattle.hm_data.specs.declared.catalog.TableState.TheVariants as state_is
use Rattle.hm_model.specs.declared.merged.Merged.{Merged}
use Rattle.hm_model.specs.Catalog.{Catalog}
use Rattle.hm_model.specs.Phase.{or_else}
use Rattle.hm_model.specs.RowsSaid.{table_state_in, status_in, range_in, same_state, is_live_status}

-- the cause against a namespace to create where it is there
abbrev pub namespace_free : Option CatRow → Option Cause
namespace_free None = None
namespace_free (Some row) = Some cause_is.NsExists

-- the cause against a namespace where it isn't there
abbrev pub namespace_there : Option CatRow → Option Cause
namespace_there None = Some cause_is.NsMissing
namespace_there (Some row) = None

-- the cause against dropping a namespace: it isn't there, or has a table
abbrev pub namespace_empty : Option CatRow → Bool → Option Cause
namespace_empty row has_table = or_else (namespace_there row) (if has_table then Some cause_is.NsNotEmpty else None)

-- the cause against a table to create where it is there
abbrev pub table_absent : Option CatRow → Option Cause
table_absent None = None
table_absent (Some row) = Some cause_is.TableExists

-- the cause against creating a table: its namespace isn't there, or the table is
abbrev pub table_free : Option CatRow → Option CatRow → Option Cause
table_free ns table = or_else (namespace_there ns) (table_absent table)

-- the cause against a table: it isn't there, or not in the state that is asked for
abbrev pub table_in : TableState → Cause → Option TableState → Option Cause
table_in wanted cause None = Some cause_is.TableMissing
table_in wanted cause (Some state) = if same_state wanted state then None else Some cause

-- the cause against a table that isn't there and disabled
abbrev pub table_disabled : Option CatRow → Option Cause
table_disabled table = table_in state_is.Disabled cause_is.NotDisabled (table_state_in table)

-- the cause against a table that isn't there and enabled
abbrev pub table_enabled : Option CatRow → Option Cause
table_enabled table = table_in state_is.Enabled cause_is.NotEnabled (table_state_in table)

-- each of some regions is there, and each is live
abbrev pub regions_live : List (Option CatRow) → Option Cause
regions_live rows =
    if list_any (λ row. is_none (status_in row)) rows then Some cause_is.RegionMissing
    else (if list_any (λ row. not (is_live_status (status_in row))) rows then Some cause_is.RegionNotLive else None)

-- the key lies within the range and isn't its start
abbrev pub key_inside : Option KeyRange → List ℕ → Option Cause
key_inside None key = None
key_inside (Some range) key = if inner range key then None else Some cause_is.KeyOutside

-- a region of an enabled table is live
abbrev pub region_ready : Option CatRow → Option CatRow → Option Cause
region_ready table region = or_else (table_enabled table) (regions_live (region ∷ []))

-- a region can be split at a key
abbrev pub can_split : Option CatRow → Option CatRow → List ℕ → Option Cause
can_split table region key = or_else (region_ready table region) (key_inside (range_in region) key)

-- a region in front of others, where its range is known
abbrev pub keep_part : ℕ → Option KeyRange → List Merged → List Merged
keep_part id None more = more
keep_part id (Some range) more = record { id = id; range = range } ∷ more

-- the ranges of regions in a catalog
abbrev pub parts_of : Catalog → List Region → List Merged
parts_of there [] = []
parts_of there (region ∷ more) = keep_part region.id (range_in (there (key_is.Region region))) (parts_of there more)

-- regions by their start keys, with one more
abbrev pub with_part : Merged → List Merged → List Merged
with_part part [] = part ∷ []
with_part part (first ∷ more) =
    if is_le (bytes_cmp part.range.start first.range.start) then (part ∷ first ∷ more) else (first ∷ with_part part more)

-- regions by their start keys
abbrev pub by_start : List Merged → List Merged
by_start [] = []
by_start (part ∷ more) = with_part part (by_start more)

-- each end isn't the open one and is the next one's start, from a range on
abbrev pub is_chain : KeyRange → List Merged → Bool
is_chain range [] = true
is_chain range (next ∷ more) =
    not (length range.end == 0) && (bytes_eq range.end next.range.start && is_chain next.range more)

-- regions by their start keys are adjacent, each to the next
abbrev pub are_adjacent : List Merged → Option Cause
are_adjacent [] = None
are_adjacent (part ∷ more) = if is_chain part.range more then None else Some cause_is.NotAdjacent

-- from the start of a range to the end of the last
abbrev pub hull : KeyRange → List Merged → KeyRange
hull range [] = range
hull range (next ∷ more) = hull (joined range next.range) more

-- the rows of regions
abbrev pub rows_of : Catalog → List Region → List (Option CatRow)
rows_of there [] = []
rows_of there (region ∷ more) = there (key_is.Region region) ∷ rows_of there more

-- regions can be merged, by their table's row and the catalog
abbrev pub can_merge : Option CatRow → Catalog → List Region → Option Cause
can_merge table there regions =
    or_else (table_enabled table) (or_else (regions_live (rows_of there regions)) (are_adjacent (by_start (parts_of there regions))))
