-- Roots that ask for regions alone: splits, merges, moves and all that isn't a request. Where one that goes on is.
use Rattle.std.proofs.Common.{◌≡◌, ◌≢◌, ℕ, ◌+◌, ◌<◌, ◌≤◌, List, [], ◌∷◌, ◌++◌, ◌&&◌, Bool, true, false, map, Some, refl, ap, ◌∙◌, subst, inl, inr, ◌⊎◌, arith}
use Rattle.std.proofs.lemmas.Bool.{cases_eq, false≢true, true≢false}
use Rattle.std.proofs.lemmas.Option.{none-some, same_Some}
use Rattle.std.specs.List.{list_any}
use Rattle.hm_names.specs.Region.{Region}
use Rattle.hm_names.specs.declared.table.TableName.{TableName}
use Rattle.hm_data.specs.declared.act.Act.TheVariants as act_is
use Rattle.hm_data.specs.declared.args.Args.{Args}
use Rattle.hm_data.specs.declared.args.Args.TheVariants as args_are
use Rattle.hm_data.specs.declared.catalog.CatKey.TheVariants as key_is
use Rattle.hm_data.specs.declared.catalog.Edit.{Edit}
use Rattle.hm_data.specs.declared.request.Request.{Request}
use Rattle.hm_data.specs.declared.request.Request.TheVariants as request_is
use Rattle.hm_model.specs.Catalog.{Catalog}
use Rattle.hm_model.specs.Changes.{region_key}
use Rattle.hm_model.specs.Kinds.{kind_of, table_of_request}
use Rattle.hm_model.specs.Lists.{Line, exact_rows, late}
use Rattle.hm_model.specs.Locks.{exclusive, in_name_order, region_alone}
use Rattle.hm_model.specs.Reads.{covers, is_over}
use Rattle.hm_model.specs.Tree.{new_ids}
use Rattle.hm_model.specs.declared.lock.Ask.{Ask}
use Rattle.hm_model.specs.declared.lock.Resource.TheVariants as resource_is
use Rattle.hm_kinds.proofs.Covering.{covers_from, merge_new}
use Rattle.hm_kinds.proofs.MergeRegions.{Merging}
use Rattle.hm_kinds.proofs.Roots.{Stage}
use Rattle.hm_kinds.proofs.SplitRegion.{Splitting}
use Rattle.hm_cover.proofs.Spared.{is_local}
use Rattle.hm_model.proofs.KeyTests.{same_region-refl}

abbrev pub asks_regions : Args → Bool
asks_regions (args_are.Root request first) = is_local request
asks_regions args = true

any_over : (regions : List Region) (new : Ask) (t : TableName) → (new.exclusive && is_over new.resource (key_is.Table t)) ≡ false
    → list_any (λ ask. ask.exclusive && is_over ask.resource (key_is.Table t)) (map (λ r. exclusive (resource_is.Region r)) regions ++ new ∷ []) ≡ false
any_over [] new t off = over (new.exclusive && is_over new.resource (key_is.Table t)) off
  where
    over : (b : Bool) → b ≡ false → Rattle.std.proofs.Common.◌||◌ b false ≡ false
    over true e = absurd (true≢false e)
    over false e = refl
any_over (region ∷ more) new t off = any_over more new t off

-- they ask for no table alone
pub local_free : (args : Args) → asks_regions args ≡ true → (t : TableName) → covers args (key_is.Table t) ≡ false
local_free (args_are.Root (request_is.SplitRegion region key) first) h t = refl
local_free (args_are.Root (request_is.MergeRegions []) first) h t = refl
local_free (args_are.Root (request_is.MergeRegions (region ∷ more)) first) h t = any_over (in_name_order (region ∷ more)) (region_alone region.table first) t refl
local_free (args_are.Root (request_is.Move region to) first) h t = refl
local_free (args_are.Root (request_is.CreateNamespace ns) first) h t = absurd (false≢true h)
local_free (args_are.Root (request_is.DropNamespace ns) first) h t = absurd (false≢true h)
local_free (args_are.Root (request_is.CreateTable table keys) first) h t = absurd (false≢true h)
local_free (args_are.Root (request_is.DeleteTable table) first) h t = absurd (false≢true h)
local_free (args_are.Root (request_is.EnableTable table) first) h t = absurd (false≢true h)
local_free (args_are.Root (request_is.DisableTable table) first) h t = absurd (false≢true h)
local_free (args_are.Root (request_is.ModifyTable table version) first) h t = absurd (false≢true h)
local_free args h t = refl

own_id : (args : Args) (t : TableName) (first i : ℕ) → i ≡ first → covers args (region_key t first) ≡ true → covers args (region_key t i) ≡ true
own_id args t first i e c = ap (λ j. covers args (region_key t j)) e ∙ c

-- they ask for each region that they draw
pub covers_new : (request : Request) (first : ℕ) → is_local request ≡ true → (t : TableName) → table_of_request request ≡ Some t → (i : ℕ) → first ≤ i → i < first + new_ids request → covers (args_are.Root request first) (region_key t i) ≡ true
covers_new (request_is.SplitRegion region key) first h t is i low high = subst (λ x. covers (args_are.Root (request_is.SplitRegion region key) first) (region_key x i) ≡ true) (same_Some region.table t is) (elim (cases_eq i first) [
  | inl same ↦ own_id (args_are.Root (request_is.SplitRegion region key) first) region.table first i same (covers_from (args_are.Root (request_is.SplitRegion region key) first) (resource_is.Region (record { table = region.table; id = first })) (region_key region.table first) (inr (inr (inr (inl refl)))) (same_region-refl (record { table = region.table; id = first })))
  | inr differs ↦ own_id (args_are.Root (request_is.SplitRegion region key) first) region.table (first + 1) i (omega (arith, low, high, differs)) (covers_from (args_are.Root (request_is.SplitRegion region key) first) (resource_is.Region (record { table = region.table; id = first + 1 })) (region_key region.table (first + 1)) (inr (inr (inr (inr (inl refl))))) (same_region-refl (record { table = region.table; id = first + 1 })))
])
covers_new (request_is.MergeRegions []) first h t is i low high = absurd (none-some t is)
covers_new (request_is.MergeRegions (region ∷ more)) first h t is i low high = subst (λ x. covers (args_are.Root (request_is.MergeRegions (region ∷ more)) first) (region_key x i) ≡ true) (same_Some region.table t is)
    (own_id (args_are.Root (request_is.MergeRegions (region ∷ more)) first) region.table first i (omega (arith, low, high)) (covers_from (args_are.Root (request_is.MergeRegions (region ∷ more)) first) (resource_is.Region (record { table = region.table; id = first })) (region_key region.table first) (merge_new region more first) (same_region-refl (record { table = region.table; id = first }))))
covers_new (request_is.Move region to) first h t is i low high = absurd (omega (arith, low, high))
covers_new request first h t is i low high = absurd (false≢true h)

split_ready : (region : Region) (key : List ℕ) (first : ℕ) (base : Catalog) (lines : List Line) (then : List Edit) → Splitting region key first base lines then → (then ≡ []) ⊎ Splitting region key first base (late act_is.Finish ∷ []) then
split_ready region key first base lines then Splitting.begins = inl refl
split_ready region key first base lines then (Splitting.found can) = inl refl
split_ready region key first base lines then (Splitting.closed can) = inl refl
split_ready region key first base lines then Splitting.starts = inl refl
split_ready region key first base lines then (Splitting.tested can) = inl refl
split_ready region key first base lines then (Splitting.ahead can) = inl refl
split_ready region key first base lines then (Splitting.laid can) = inl refl
split_ready region key first base lines then (Splitting.told can) = inr (Splitting.opened can)
split_ready region key first base lines then (Splitting.opened can) = inr (Splitting.opened can)

merge_ready : (regions : List Region) (first : ℕ) (base : Catalog) (lines : List Line) (then : List Edit) → Merging regions first base lines then → (then ≡ []) ⊎ Merging regions first base (late act_is.Finish ∷ []) then
merge_ready regions first base lines then Merging.begins = inl refl
merge_ready regions first base lines then (Merging.found can) = inl refl
merge_ready regions first base lines then (Merging.closed can) = inl refl
merge_ready regions first base lines then (Merging.laid can) = inl refl
merge_ready regions first base lines then (Merging.told can) = inr (Merging.opened can)
merge_ready regions first base lines then (Merging.opened can) = inr (Merging.opened can)

-- it has edited nothing, or has done all that its deed does
abbrev pub IsReadyOr : Args → Catalog → List Edit → Type 0
IsReadyOr args base then =
    (then ≡ []) ⊎ ((request : Request) × (first : ℕ) × (args ≡ args_are.Root request first) × (is_local request ≡ true) × (exact_rows (kind_of args) ≡ []) × Stage args base (late act_is.Finish ∷ []) then)

pub stage_ready : (args : Args) → asks_regions args ≡ true → exact_rows (kind_of args) ≡ [] → (base : Catalog) (lines : List Line) (then : List Edit) → Stage args base lines then → IsReadyOr args base then
stage_ready (args_are.Root (request_is.SplitRegion region key) first) h exact base lines then stage = elim (split_ready region key first base lines then stage) [ inl none ↦ inl none | inr ready ↦ inr (request_is.SplitRegion region key, first, refl, refl, exact, ready) ]
stage_ready (args_are.Root (request_is.MergeRegions regions) first) h exact base lines then stage = elim (merge_ready regions first base lines then stage) [ inl none ↦ inl none | inr ready ↦ inr (request_is.MergeRegions regions, first, refl, refl, exact, ready) ]
stage_ready (args_are.Root (request_is.Move region to) first) h exact base lines then stage = absurd stage
stage_ready (args_are.Root (request_is.CreateNamespace ns) first) h exact base lines then stage = absurd (false≢true h)
stage_ready (args_are.Root (request_is.DropNamespace ns) first) h exact base lines then stage = absurd (false≢true h)
stage_ready (args_are.Root (request_is.CreateTable table keys) first) h exact base lines then stage = absurd (false≢true h)
stage_ready (args_are.Root (request_is.DeleteTable table) first) h exact base lines then stage = absurd (false≢true h)
stage_ready (args_are.Root (request_is.EnableTable table) first) h exact base lines then stage = absurd (false≢true h)
stage_ready (args_are.Root (request_is.DisableTable table) first) h exact base lines then stage = absurd (false≢true h)
stage_ready (args_are.Root (request_is.ModifyTable table version) first) h exact base lines then stage = absurd (false≢true h)
stage_ready args h exact base lines then stage = absurd stage
