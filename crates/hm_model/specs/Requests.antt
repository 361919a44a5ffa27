-- Which requests may be submitted.
use Rattle.std.specs.Prelude.{◌≡◌, ℕ, ◌+◌, ◌≤◌, List, [], ◌∷◌, length, Option, Some, None, Bool, true, false, not, ◌==◌, ◌&&◌, ◌||◌, nat_lt, nat_le, if◌then◌else◌, codes}
use Rattle.std.specs.List.{list_all}
use Rattle.std.specs.Ordering.{is_lt}
use Rattle.std.specs.Str.{bytes_eq}
use Rattle.hm_names.specs.Order.{bytes_cmp}
use Rattle.hm_names.specs.Region.{Region}
use Rattle.hm_names.specs.declared.table.TableName.{TableName}
use Rattle.hm_data.specs.declared.request.Request.{Request}
use Rattle.hm_data.specs.declared.request.Request.TheVariants as request_is
use Rattle.hm_model.specs.Journal.{Past}
use Rattle.hm_model.specs.Keys.{same_table}
use Rattle.hm_model.specs.Kinds.{table_of_request}
use Rattle.hm_model.specs.Tree.{drawn, new_ids}

-- each key is greater than the one before, from a key on
abbrev pub rise : List ℕ → List (List ℕ) → Bool
rise key [] = true
rise key (next ∷ more) = is_lt (bytes_cmp key next) && rise next more

-- two regions are of one table, and not the same
abbrev pub are_apart : Region → Region → Bool
are_apart one other = same_table one.table other.table && not (one.id == other.id)

-- different regions of one table
abbrev pub are_siblings : List Region → Bool
are_siblings [] = true
are_siblings (region ∷ more) = list_all (are_apart region) more && are_siblings more

-- two to ten different regions of one table
abbrev pub may_merge : List Region → Bool
may_merge regions = nat_le 2 (length regions) && (nat_le (length regions) 10 && are_siblings regions)

-- the namespaces that are there from the start
abbrev pub is_fixed : List ℕ → Bool
is_fixed ns = bytes_eq ns (codes "default") || bytes_eq ns (codes "hbase")

-- what is wrong with the keys that a table is split at: an empty one or one that isn't greater than the one before; more
-- than 255
abbrev pub wrong_keys : List (List ℕ) → Option ℕ
wrong_keys keys = if not (rise [] keys) then Some 2 else (if nat_lt 255 (length keys) then Some 3 else None)

-- the number of what is wrong with a request by itself, the lowest
abbrev pub wrong_in : Request → Option ℕ
wrong_in (request_is.DropNamespace ns) = if is_fixed ns then Some 1 else None
wrong_in (request_is.CreateTable table keys) = wrong_keys keys
wrong_in (request_is.SplitRegion region key) = if length key == 0 then Some 5 else None
wrong_in (request_is.MergeRegions regions) = if may_merge regions then None else Some 4
wrong_in request = None

-- a request that can be submitted: nothing is wrong with it
abbrev pub MaySubmit : Request → Type 0
MaySubmit request = wrong_in request ≡ None

-- the region ids drawn for a table stay within 4096
abbrev pub StaysWithin : Past → Request → Type 0
StaysWithin before request =
    (table : TableName) → table_of_request request ≡ Some table → drawn before table + new_ids request ≤ 4096
