-- What short procedures work on, by their parts.
use Rattle.std.proofs.Common.{◌≡◌, ℕ, zero, suc, ◌+◌, ◌-◌, ◌≤◌, Bool, true, false, ◌&&◌, nat_lt, if◌then◌else◌, List, [], ◌∷◌, ◌++◌, map, length, Option, Some, None, All, refl, sym, subst, arith, length-append}
use Rattle.std.proofs.lemmas.Bool.{and_parts, ltb-false}
use Rattle.std.proofs.lemmas.List.Elements.{All-head, All-tail}
use Rattle.std.proofs.lemmas.Option.{none-some, same_Some}
use Rattle.hm_names.specs.Names.{IsNs}
use Rattle.hm_names.specs.Region.{Region}
use Rattle.hm_names.specs.Regions.{IsRegion}
use Rattle.hm_names.specs.Servers.{IsServer}
use Rattle.hm_names.specs.Tables.{IsTable}
use Rattle.hm_names.specs.declared.table.TableName.{TableName}
use Rattle.hm_data.specs.declared.args.Args.{Args}
use Rattle.hm_data.specs.declared.args.Args.TheVariants as args_are
use Rattle.hm_data.specs.declared.catalog.CatKey.{CatKey}
use Rattle.hm_data.specs.declared.catalog.CatKey.TheVariants as key_is
use Rattle.hm_data.specs.declared.catalog.CatRow.{CatRow}
use Rattle.hm_data.specs.declared.request.Request.{Request}
use Rattle.hm_data.specs.declared.request.Request.TheVariants as request_is
use Rattle.hm_entry.specs.Fits.{KeyFits}
use Rattle.hm_model.specs.Keys.{same_table}
use Rattle.hm_model.specs.Kinds.{table_of_first, table_of_request}
use Rattle.hm_model.specs.Pieces.{numbers_from}
use Rattle.hm_model.specs.RegionActs.{cut_of, regions_for}
use Rattle.hm_model.specs.Requests.{rise}
use Rattle.hm_model.specs.RowsSaid.{Rows, is_live_status, keep_region, regions_among, status_in}
use Rattle.hm_model.specs.Undoing.{closed_by}
use Rattle.hm_model.specs.Views.{asked_of, bounds_of, namespace_of, namespace_of_request, region_of, regions_in, table_of}
use Rattle.hm_model.specs.Wanted.{ids_of, server_of}
use Rattle.hm_model.proofs.KeyTests.{same_table-is}
use Rattle.hm_frames.proofs.ShortChildren.{IsOf}
use Rattle.hm_frames.proofs.NameSizes.{few_keys, few_merge}
use Rattle.hm_frames.proofs.ShortForms.{Each, If, IsOfTable, IsShortArgs, IsShortKey, IsShortRequest}

each_of : {A : Type 0} (P Q : A → Type 0) → ((x : A) → P x → Q x) → (xs : List A) → All P xs → Each Q xs
each_of P Q turn [] are = tt
each_of P Q turn (x ∷ xs) are = (turn x (All-head P x xs are), each_of P Q turn xs (All-tail P x xs are))

keys_each : (keys : List (List ℕ)) → All KeyFits keys → Each IsShortKey keys
keys_each keys are = each_of KeyFits IsShortKey (λ key fits. fits.0) keys are

-- the namespace
ns_in_request : (asked : Request) → IsShortRequest asked → If IsNs (namespace_of_request asked)
ns_in_request (request_is.CreateNamespace ns) is = is.1
ns_in_request (request_is.DropNamespace ns) is = is.1
ns_in_request (request_is.CreateTable t keys) is = is.1.0.0
ns_in_request (request_is.DeleteTable t) is = tt
ns_in_request (request_is.EnableTable t) is = tt
ns_in_request (request_is.DisableTable t) is = tt
ns_in_request (request_is.ModifyTable t version) is = tt
ns_in_request (request_is.SplitRegion r key) is = tt
ns_in_request (request_is.MergeRegions rs) is = tt
ns_in_request (request_is.Move r to) is = tt

pub ns_in : (args : Args) → IsShortArgs args → If IsNs (namespace_of args)
ns_in (args_are.Root asked first) is = ns_in_request asked is
ns_in (args_are.Transit region goal to) is = tt
ns_in (args_are.Crash server) is = tt
ns_in (args_are.AddRegions table first bounds) is = tt
ns_in (args_are.DropRegions table ids) is = tt
ns_in (args_are.AssignCall region server) is = tt
ns_in (args_are.CloseCall region server) is = tt
ns_in (args_are.FenceCall server) is = tt
ns_in (args_are.LayoutCall root) is = tt
ns_in (args_are.SweepLayout root) is = tt

-- the table
first_in : (rs : List Region) → All IsRegion rs → If IsTable (table_of_first rs)
first_in [] are = tt
first_in (r ∷ rs) are = (All-head IsRegion r rs are).0

table_in_request : (asked : Request) → IsShortRequest asked → If IsTable (table_of_request asked)
table_in_request (request_is.CreateNamespace ns) is = tt
table_in_request (request_is.DropNamespace ns) is = tt
table_in_request (request_is.CreateTable t keys) is = is.1.0
table_in_request (request_is.DeleteTable t) is = is.1
table_in_request (request_is.EnableTable t) is = is.1
table_in_request (request_is.DisableTable t) is = is.1
table_in_request (request_is.ModifyTable t version) is = is.1.0
table_in_request (request_is.SplitRegion r key) is = is.1.0.0
table_in_request (request_is.MergeRegions rs) is = first_in rs is.1.1
table_in_request (request_is.Move r to) is = is.1.0.0

pub table_in : (args : Args) → IsShortArgs args → If IsTable (table_of args)
table_in (args_are.Root asked first) is = table_in_request asked is
table_in (args_are.Transit region goal to) is = is
table_in (args_are.Crash server) is = tt
table_in (args_are.AddRegions table first bounds) is = is.0
table_in (args_are.DropRegions table ids) is = is.0
table_in (args_are.AssignCall region server) is = is.0
table_in (args_are.CloseCall region server) is = is.0
table_in (args_are.FenceCall server) is = tt
table_in (args_are.LayoutCall root) is = tt
table_in (args_are.SweepLayout root) is = tt

-- the region
pub region_in : (args : Args) → IsShortArgs args → If IsOfTable (region_of args)
region_in (args_are.Root (request_is.CreateNamespace ns) first) is = tt
region_in (args_are.Root (request_is.DropNamespace ns) first) is = tt
region_in (args_are.Root (request_is.CreateTable t keys) first) is = tt
region_in (args_are.Root (request_is.DeleteTable t) first) is = tt
region_in (args_are.Root (request_is.EnableTable t) first) is = tt
region_in (args_are.Root (request_is.DisableTable t) first) is = tt
region_in (args_are.Root (request_is.ModifyTable t version) first) is = tt
region_in (args_are.Root (request_is.SplitRegion r key) first) is = is.1.0.0
region_in (args_are.Root (request_is.MergeRegions rs) first) is = tt
region_in (args_are.Root (request_is.Move r to) first) is = is.1.0.0
region_in (args_are.Transit region goal to) is = is
region_in (args_are.Crash server) is = tt
region_in (args_are.AddRegions table first bounds) is = tt
region_in (args_are.DropRegions table ids) is = tt
region_in (args_are.AssignCall region server) is = is.0
region_in (args_are.CloseCall region server) is = is.0
region_in (args_are.FenceCall server) is = tt
region_in (args_are.LayoutCall root) is = tt
region_in (args_are.SweepLayout root) is = tt

-- the key to split at
pub cut_in : (args : Args) → IsShortArgs args → If IsShortKey (cut_of (asked_of args))
cut_in (args_are.Root (request_is.CreateNamespace ns) first) is = tt
cut_in (args_are.Root (request_is.DropNamespace ns) first) is = tt
cut_in (args_are.Root (request_is.CreateTable t keys) first) is = tt
cut_in (args_are.Root (request_is.DeleteTable t) first) is = tt
cut_in (args_are.Root (request_is.EnableTable t) first) is = tt
cut_in (args_are.Root (request_is.DisableTable t) first) is = tt
cut_in (args_are.Root (request_is.ModifyTable t version) first) is = tt
cut_in (args_are.Root (request_is.SplitRegion r key) first) is = is.1.1.0
cut_in (args_are.Root (request_is.MergeRegions rs) first) is = tt
cut_in (args_are.Root (request_is.Move r to) first) is = tt
cut_in (args_are.Transit region goal to) is = tt
cut_in (args_are.Crash server) is = tt
cut_in (args_are.AddRegions table first bounds) is = tt
cut_in (args_are.DropRegions table ids) is = tt
cut_in (args_are.AssignCall region server) is = tt
cut_in (args_are.CloseCall region server) is = tt
cut_in (args_are.FenceCall server) is = tt
cut_in (args_are.LayoutCall root) is = tt
cut_in (args_are.SweepLayout root) is = tt

-- the bounds of regions to add
each_last : (keys : List (List ℕ)) → Each IsShortKey keys → Each IsShortKey (keys ++ [] ∷ [])
each_last [] are = (omega arith, tt)
each_last (key ∷ keys) are = (are.0, each_last keys are.1)

AreBounds : List (List ℕ) → Type 0
AreBounds bounds = Each IsShortKey bounds × (length bounds ≤ 257)

created_bounds : (keys : List (List ℕ)) → Each IsShortKey keys → length keys ≤ 255 → AreBounds ([] ∷ keys ++ [] ∷ [])
unfolding AreBounds
created_bounds keys are few = ((omega arith, each_last keys are), omega (arith, few, length-append keys ([] ∷ [])))

pub bounds_in : (args : Args) → IsShortArgs args → (bounds : List (List ℕ)) → bounds_of args ≡ Some bounds → Each IsShortKey bounds × (length bounds ≤ 257)
unfolding AreBounds
bounds_in (args_are.Root (request_is.CreateNamespace ns) first) is bounds e = absurd (none-some bounds e)
bounds_in (args_are.Root (request_is.DropNamespace ns) first) is bounds e = absurd (none-some bounds e)
bounds_in (args_are.Root (request_is.CreateTable t keys) first) is bounds e =
    subst AreBounds (same_Some ([] ∷ keys ++ [] ∷ []) bounds e)
    (created_bounds keys (keys_each keys is.1.1.1) (ltb-false 255 (length keys) (few_keys (rise [] keys) (nat_lt 255 (length keys)) is.0)))
bounds_in (args_are.Root (request_is.DeleteTable t) first) is bounds e = absurd (none-some bounds e)
bounds_in (args_are.Root (request_is.EnableTable t) first) is bounds e = absurd (none-some bounds e)
bounds_in (args_are.Root (request_is.DisableTable t) first) is bounds e = absurd (none-some bounds e)
bounds_in (args_are.Root (request_is.ModifyTable t version) first) is bounds e = absurd (none-some bounds e)
bounds_in (args_are.Root (request_is.SplitRegion r key) first) is bounds e = absurd (none-some bounds e)
bounds_in (args_are.Root (request_is.MergeRegions rs) first) is bounds e = absurd (none-some bounds e)
bounds_in (args_are.Root (request_is.Move r to) first) is bounds e = absurd (none-some bounds e)
bounds_in (args_are.Transit region goal to) is bounds e = absurd (none-some bounds e)
bounds_in (args_are.Crash server) is bounds e = absurd (none-some bounds e)
bounds_in (args_are.AddRegions table first own) is bounds e = subst AreBounds (same_Some own bounds e) (is.1, omega (arith, is.2))
bounds_in (args_are.DropRegions table ids) is bounds e = absurd (none-some bounds e)
bounds_in (args_are.AssignCall region server) is bounds e = absurd (none-some bounds e)
bounds_in (args_are.CloseCall region server) is bounds e = absurd (none-some bounds e)
bounds_in (args_are.FenceCall server) is bounds e = absurd (none-some bounds e)
bounds_in (args_are.LayoutCall root) is bounds e = absurd (none-some bounds e)
bounds_in (args_are.SweepLayout root) is bounds e = absurd (none-some bounds e)

-- the ids to remove
pub ids_in : (args : Args) → IsShortArgs args → length (ids_of args) ≤ 64
ids_in (args_are.Root asked first) is = omega arith
ids_in (args_are.Transit region goal to) is = omega arith
ids_in (args_are.Crash server) is = omega arith
ids_in (args_are.AddRegions table first bounds) is = omega arith
ids_in (args_are.DropRegions table ids) is = is.1
ids_in (args_are.AssignCall region server) is = omega arith
ids_in (args_are.CloseCall region server) is = omega arith
ids_in (args_are.FenceCall server) is = omega arith
ids_in (args_are.LayoutCall root) is = omega arith
ids_in (args_are.SweepLayout root) is = omega arith

-- the server
pub server_in : (args : Args) → IsShortArgs args → If IsServer (server_of args)
server_in (args_are.Root asked first) is = tt
server_in (args_are.Transit region goal to) is = tt
server_in (args_are.Crash server) is = is
server_in (args_are.AddRegions table first bounds) is = tt
server_in (args_are.DropRegions table ids) is = tt
server_in (args_are.AssignCall region server) is = is.1
server_in (args_are.CloseCall region server) is = is.1
server_in (args_are.FenceCall server) is = is
server_in (args_are.LayoutCall root) is = tt
server_in (args_are.SweepLayout root) is = tt

-- the regions to close
pub closed_in : (args : Args) → IsShortArgs args → Each IsOfTable (closed_by args) × (length (closed_by args) ≤ 10)
closed_in (args_are.Root (request_is.CreateNamespace ns) first) is = (tt, omega arith)
closed_in (args_are.Root (request_is.DropNamespace ns) first) is = (tt, omega arith)
closed_in (args_are.Root (request_is.CreateTable t keys) first) is = (tt, omega arith)
closed_in (args_are.Root (request_is.DeleteTable t) first) is = (tt, omega arith)
closed_in (args_are.Root (request_is.EnableTable t) first) is = (tt, omega arith)
closed_in (args_are.Root (request_is.DisableTable t) first) is = (tt, omega arith)
closed_in (args_are.Root (request_is.ModifyTable t version) first) is = (tt, omega arith)
closed_in (args_are.Root (request_is.SplitRegion r key) first) is = ((is.1.0.0, tt), omega arith)
closed_in (args_are.Root (request_is.MergeRegions rs) first) is = (each_of IsRegion IsOfTable (λ r fits. fits.0) rs is.1.1, few_merge rs is.0)
closed_in (args_are.Root (request_is.Move r to) first) is = (tt, omega arith)
closed_in (args_are.Transit region goal to) is = (tt, omega arith)
closed_in (args_are.Crash server) is = (tt, omega arith)
closed_in (args_are.AddRegions table first bounds) is = (tt, omega arith)
closed_in (args_are.DropRegions table ids) is = (tt, omega arith)
closed_in (args_are.AssignCall region server) is = (tt, omega arith)
closed_in (args_are.CloseCall region server) is = (tt, omega arith)
closed_in (args_are.FenceCall server) is = (tt, omega arith)
closed_in (args_are.LayoutCall root) is = (tt, omega arith)
closed_in (args_are.SweepLayout root) is = (tt, omega arith)

-- regions of one table by their ids
pub of_ids : (t : TableName) (ids : List ℕ) → Each (IsOf t) (regions_in t ids) × (length (regions_in t ids) ≡ length ids)
of_ids t [] = (tt, refl)
of_ids t (id ∷ ids) = let rest = of_ids t ids in ((refl, rest.0), omega (arith, rest.1))

pub ids_of_table : (t : TableName) → IsTable t → (ids : List ℕ) → Each IsOfTable (regions_in t ids)
ids_of_table t named [] = tt
ids_of_table t named (id ∷ ids) = (named, ids_of_table t named ids)

pub numbers_count : (first count : ℕ) → length (numbers_from first count) ≡ count
numbers_count first zero = refl
numbers_count first (suc count) = omega (arith, numbers_count (first + 1) count)

-- regions of a table among rows
kept_of : (t : TableName) (test : CatRow → Bool) (k : CatKey) (row : CatRow) (more : List Region) → Each (IsOf t) more → Each (IsOf t) (keep_region t test k row more)
kept_of t test (key_is.Ns ns) row more are = are
kept_of t test (key_is.Table other) row more are = are
kept_of t test (key_is.Region r) row more are = by (same_table t r.table && test row) refl
  where
    by : (b : Bool) → (same_table t r.table && test row) ≡ b → Each (IsOf t) (if b then (r ∷ more) else more)
    by true e = (sym (same_table-is t r.table (and_parts (same_table t r.table) (test row) e).0), are)
    by false e = are

pub of_rows : (t : TableName) (test : CatRow → Bool) (rows : Rows) → Each (IsOf t) (regions_among t test rows)
of_rows t test [] = tt
of_rows t test ((k, row) ∷ rows) = kept_of t test k row (regions_among t test rows) (of_rows t test rows)

pub ids_count : (regions : List Region) → length (map (λ (r : Region). r.id) regions) ≡ length regions
ids_count [] = refl
ids_count (r ∷ regions) = omega (arith, ids_count regions)

-- the regions of a table that are to be opened or closed
pub all_for : (t : TableName) (first : ℕ) (bounds : Option (List (List ℕ))) (rows : Rows) → ((own : List (List ℕ)) → bounds ≡ Some own → length own ≤ 257) → ((test : CatRow → Bool) → length (regions_among t test rows) ≤ 4096)
    → Each (IsOf t) (regions_for t first bounds rows) × (length (regions_for t first bounds rows) ≤ 4096)
all_for t first None rows few among = (of_rows t (λ row. is_live_status (status_in (Some row))) rows, among (λ row. is_live_status (status_in (Some row))))
all_for t first (Some own) rows few among =
    let of = of_ids t (numbers_from first (length own - 1)) in
    (of.0, omega (arith, of.1, numbers_count first (length own - 1), few own refl))
