-- Each deed leaves each table whole, and gives rows to no regions but those that are there and those that were drawn.
use Rattle.std.proofs.Common.{◌≡◌, ◌≢◌, ℕ, suc, ◌+◌, ◌<◌, ◌≤◌, Bool, true, false, not, ◌==◌, cond, List, [], ◌∷◌, ◌++◌, length, length-append, Option, Some, None, refl, sym, ap, subst, ◌∙◌, arith}
use Rattle.std.specs.Prelude.{is_none}
use Rattle.std.specs.List.{list_all, list_any}
use Rattle.std.specs.declared.result.Result.TheVariants.{Ok}
use Rattle.std.proofs.lemmas.Bool.{and_parts, cond-false, eq-eqb, not-true, or_parts, true≢false}
use Rattle.std.proofs.lemmas.Option.{none-some}
use Rattle.hm_names.specs.Region.{Region}
use Rattle.hm_names.specs.declared.table.TableName.{TableName}
use Rattle.hm_data.specs.declared.answer.Cause.{Cause}
use Rattle.hm_data.specs.declared.answer.Cause.TheVariants as cause_is
use Rattle.hm_data.specs.declared.catalog.CatKey.{CatKey}
use Rattle.hm_data.specs.declared.catalog.CatKey.TheVariants as key_is
use Rattle.hm_data.specs.declared.catalog.CatRow.{CatRow}
use Rattle.hm_data.specs.declared.catalog.CatRow.TheVariants as row_is
use Rattle.hm_data.specs.declared.catalog.Edit.{Edit}
use Rattle.hm_data.specs.declared.catalog.TableState.TheVariants as state_is
use Rattle.hm_data.specs.declared.request.Request.{Request}
use Rattle.hm_data.specs.declared.request.Request.TheVariants as request_is
use Rattle.hm_model.proofs.KeyTests.{same_table-is}
use Rattle.hm_model.proofs.Siblings.{merge_is}
use Rattle.hm_model.proofs.Answered.{or_none}
use Rattle.hm_model.specs.Catalog.{Catalog, edited, set_to}
use Rattle.hm_model.specs.Changes.{add_ranges, changed, merge_edits, region_key, remove_regions, split_edits}
use Rattle.hm_model.specs.Checks.{are_adjacent, by_start, can_split, namespace_empty, namespace_free, namespace_there, parts_of, region_ready, regions_live, rows_of, table_absent, table_disabled, table_enabled, table_free}
use Rattle.hm_model.specs.Deeds.{cause_of_merge, deed, regions_of, rows_in_ns}
use Rattle.hm_model.specs.Keys.{same_table}
use Rattle.hm_model.specs.Kinds.{table_of_first, table_of_request}
use Rattle.hm_model.specs.Locks.{IsIn}
use Rattle.hm_model.specs.NamespaceActs.{has_table}
use Rattle.hm_model.specs.Pieces.{ranges_between}
use Rattle.hm_model.specs.Phase.{or_else}
use Rattle.hm_model.specs.Requests.{are_apart, are_siblings, rise, wrong_in, wrong_keys}
use Rattle.hm_model.specs.RowsSaid.{in_state, in_version, is_live_status, status_in}
use Rattle.hm_model.specs.Tree.{new_ids}
use Rattle.hm_ids.proofs.Drawn.{AllDrawn, IsFirstDrawn, SeenDrawn, between_fine, merge_fine, remove_fine, split_fine}
use Rattle.hm_cover.proofs.Edits.{unless_ok}
use Rattle.hm_cover.proofs.MergeDeeds.{Distinct, Each, IsLiveOf, merge_whole}
use Rattle.hm_cover.proofs.SplitDeeds.{cut_is, enabled_there, live_first, split_whole}
use Rattle.hm_cover.proofs.TableDeeds.{altered_whole, created_off, created_own, namespace_whole, removed_off, removed_own}
use Rattle.hm_cover.proofs.Whole.{Whole}
use Rattle.hm_kinds.proofs.Covering.{ranges_length}

-- what is known where a deed is done: its request may be submitted, the ids that it drew have no rows, and all rows are
-- listed
pub record MayDo (n : ℕ) (there : Catalog) (keys : List CatKey) (request : Request) (first : ℕ) : Type 0 where
  pub sound : wrong_in request ≡ None
  pub free : (u : TableName) → table_of_request request ≡ Some u → (i : ℕ) → first ≤ i → i < first + new_ids request → there (region_key u i) ≡ None
  pub low : (u : TableName) → table_of_request request ≡ Some u → (i : ℕ) → first ≤ i → i < first + new_ids request → i < n
  pub listed : (key : CatKey) → there key ≢ None → IsIn key keys

pub between_length : (keys : List (List ℕ)) → length (ranges_between ([] ∷ keys ++ [] ∷ [])) ≡ length keys + 1
between_length keys = ranges_length [] (keys ++ [] ∷ []) ∙ length-append keys ([] ∷ [])

pub keys_rise : (keys : List (List ℕ)) → wrong_keys keys ≡ None → rise [] keys ≡ true
keys_rise keys e = by (rise [] keys) e
  where
    by : (b : Bool) → cond {A = Option ℕ} (not b) (Some 2) (cond (Rattle.std.specs.Prelude.nat_lt 255 (length keys)) (Some 3) None) ≡ None → b ≡ true
    by true h = refl
    by false h = absurd (none-some {A = ℕ} 2 (sym h))

pub absent_is : (o : Option CatRow) → table_absent o ≡ None → o ≡ None
absent_is None e = refl
absent_is (Some row) e = absurd (none-some cause_is.TableExists (sym e))

-- regions of which each passes a test
each_passes : (test : Region → Bool) (P : Region → Type 0) → ((r : Region) → test r ≡ true → P r) → (regions : List Region) → list_all test regions ≡ true → Each P regions
each_passes test P tells [] h = tt
each_passes test P tells (region ∷ more) h =
    let parts = and_parts (test region) (list_all test more) h in
    (tells region parts.0, each_passes test P tells more parts.1)

-- siblings are different, and of one table
apart_differs : (one other : Region) → are_apart one other ≡ true → other ≢ one
apart_differs one other h same = true≢false (sym (eq-eqb one.id other.id (ap (λ (r : Region). r.id) (sym same))) ∙ not-true (one.id == other.id) (and_parts (same_table one.table other.table) (not (one.id == other.id)) h).1)

siblings_distinct : (regions : List Region) → are_siblings regions ≡ true → Distinct regions
siblings_distinct [] h = tt
siblings_distinct (region ∷ more) h =
    let parts = and_parts (list_all (are_apart region) more) (are_siblings more) h in
    (each_passes (are_apart region) (λ other. other ≢ region) (apart_differs region) more parts.0, siblings_distinct more parts.1)

siblings_own : (region : Region) (more : List Region) → are_siblings (region ∷ more) ≡ true → Each (λ r. r.table ≡ region.table) (region ∷ more)
siblings_own region more h =
    (refl, each_passes (are_apart region) (λ r. r.table ≡ region.table) (λ r apart. sym (same_table-is region.table r.table (and_parts (same_table region.table r.table) (not (region.id == r.id)) apart).0)) more (and_parts (list_all (are_apart region) more) (are_siblings more) h).0)

-- each of regions against which nothing stands is live
both_false : (a b : Bool) (one other : Cause) → cond a (Some one) (cond b (Some other) None) ≡ None → (a ≡ false) × (b ≡ false)
both_false true b one other e = absurd (none-some one (sym e))
both_false false true one other e = absurd (none-some other (sym e))
both_false false false one other e = (refl, refl)

live_rest : (o : Option CatRow) (more : List (Option CatRow)) → regions_live (o ∷ more) ≡ None → regions_live more ≡ None
live_rest o more e =
    let parts = both_false (list_any (λ row. is_none (status_in row)) (o ∷ more)) (list_any (λ row. not (is_live_status (status_in row))) (o ∷ more)) cause_is.RegionMissing cause_is.RegionNotLive e in
    let one : list_any (λ row. is_none (status_in row)) more ≡ false = (or_parts (is_none (status_in o)) (list_any (λ row. is_none (status_in row)) more) parts.0).1 in
    let two : list_any (λ row. not (is_live_status (status_in row))) more ≡ false = (or_parts (not (is_live_status (status_in o))) (list_any (λ row. not (is_live_status (status_in row))) more) parts.1).1 in
    cond-false (list_any (λ row. is_none (status_in row)) more) (Some cause_is.RegionMissing) _ one ∙ cond-false (list_any (λ row. not (is_live_status (status_in row))) more) (Some cause_is.RegionNotLive) None two

pub live_each : (there : Catalog) (u : TableName) (regions : List Region) → Each (λ r. r.table ≡ u) regions → regions_live (rows_of there regions) ≡ None → Each (IsLiveOf there u) regions
live_each there u [] own e = tt
live_each there u (r ∷ regions) own e =
    let live = live_first (there (key_is.Region r)) (rows_of there regions) e in
    ((own.0, live.0, live.1, live.2), live_each there u regions own.1 (live_rest (there (key_is.Region r)) (rows_of there regions) e))

module _ (n : ℕ) (there : Catalog) (keys : List CatKey) (whole : (t : TableName) → Whole n there t) where
  abbrev StaysWhole : List Edit → Type 0
  StaysWhole done = (t : TableName) → Whole n (λ key. edited done key (there key)) t

  on_done : (edits done : List Edit) → edits ≡ done → StaysWhole edits → StaysWhole done
  on_done edits done e all = subst StaysWhole e all

  create_stays : (u : TableName) (split : List (List ℕ)) (first : ℕ) → MayDo n there keys (request_is.CreateTable u split) first → there (key_is.Table u) ≡ None
      → StaysWhole (set_to there (key_is.Table u) (Some (row_is.Table state_is.Enabled 1)) ∷ add_ranges there u first (ranges_between ([] ∷ split ++ [] ∷ [])))
  create_stays u split first may gone t = by (same_table t u) refl
    where
      rises : rise [] split ≡ true
      rises = keys_rise split may.sound

      by : (b : Bool) → same_table t u ≡ b → Whole n (λ key. edited (set_to there (key_is.Table u) (Some (row_is.Table state_is.Enabled 1)) ∷ add_ranges there u first (ranges_between ([] ∷ split ++ [] ∷ []))) key (there key)) t
      by true same =
          let size = between_length split in
          let low : first + length split < n = may.low u refl (first + length split) (omega arith) (omega arith) in
          subst (λ x. Whole n (λ key. edited (set_to there (key_is.Table u) (Some (row_is.Table state_is.Enabled 1)) ∷ add_ranges there u first (ranges_between ([] ∷ split ++ [] ∷ []))) key (there key)) x) (sym (same_table-is t u same))
          (created_own n there u split first gone rises (omega (arith, low, size)) (whole u))
      by false off = created_off n there u split first gone rises t off (whole t)

  delete_stays : (u : TableName) → ((key : CatKey) → there key ≢ None → IsIn key keys) → StaysWhole (set_to there (key_is.Table u) None ∷ remove_regions there (regions_of u keys there))
  delete_stays u listed t = by (same_table t u) refl
    where
      by : (b : Bool) → same_table t u ≡ b → Whole n (λ key. edited (set_to there (key_is.Table u) None ∷ remove_regions there (regions_of u keys there)) key (there key)) t
      by true same = subst (λ x. Whole n (λ key. edited (set_to there (key_is.Table u) None ∷ remove_regions there (regions_of u keys there)) key (there key)) x) (sym (same_table-is t u same)) (removed_own n there u keys listed)
      by false off = removed_off n there u keys listed t off (whole t)

  merge_stays : (regions : List Region) (first : ℕ) → MayDo n there keys (request_is.MergeRegions regions) first → cause_of_merge (table_of_first regions) there regions ≡ None → StaysWhole (merge_edits there regions first)
  merge_stays [] first may none t = let many = (merge_is [] may.sound).many in absurd (omega (arith, many))
  merge_stays (region ∷ more) first may none t =
      let siblings = (merge_is (region ∷ more) may.sound).siblings in
      let one = or_none (table_enabled (there (key_is.Table region.table))) (or_else (regions_live (rows_of there (region ∷ more))) (are_adjacent (by_start (parts_of there (region ∷ more))))) none in
      let two = or_none (regions_live (rows_of there (region ∷ more))) (are_adjacent (by_start (parts_of there (region ∷ more)))) one.1 in
      let low : first < n = may.low region.table refl first (omega arith) (omega arith) in
      merge_whole there n first region more (live_each there region.table (region ∷ more) (siblings_own region more siblings) two.0) (siblings_distinct (region ∷ more) siblings) two.1 (enabled_there (there (key_is.Table region.table)) one.0) (may.free region.table refl first (omega arith) (omega arith)) low t (whole region.table) (whole t)

  split_stays : (region : Region) (key : List ℕ) (first : ℕ) → MayDo n there keys (request_is.SplitRegion region key) first → can_split (there (key_is.Table region.table)) (there (key_is.Region region)) key ≡ None → StaysWhole (split_edits there region key first)
  split_stays region key first may none t =
      let low : first + 1 < n = may.low region.table refl (first + 1) (omega arith) (omega arith) in
      split_whole n there region key first (cut_is there region key none) (may.free region.table refl first (omega arith) (omega arith)) (may.free region.table refl (first + 1) (omega arith) (omega arith)) low t (whole region.table) (whole t)

  -- what a deed does leaves each table whole
  pub deed_stays : (request : Request) (first : ℕ) → MayDo n there keys request first → (done : List Edit) → deed request first keys there ≡ Ok done → StaysWhole done
  deed_stays (request_is.CreateNamespace ns) first may done e = let u = unless_ok (namespace_free (there (key_is.Ns ns))) _ done e in on_done (set_to there (key_is.Ns ns) (Some row_is.Ns) ∷ []) done u.1 (λ t. namespace_whole n there ns (Some row_is.Ns) t (whole t))
  deed_stays (request_is.DropNamespace ns) first may done e = let u = unless_ok (namespace_empty (there (key_is.Ns ns)) (has_table ns (rows_in_ns ns keys there))) _ done e in on_done (set_to there (key_is.Ns ns) None ∷ []) done u.1 (λ t. namespace_whole n there ns None t (whole t))
  deed_stays (request_is.CreateTable u split) first may done e =
      let ok = unless_ok (table_free (there (key_is.Ns u.ns)) (there (key_is.Table u))) _ done e in
      let gone = absent_is (there (key_is.Table u)) (or_none (namespace_there (there (key_is.Ns u.ns))) (table_absent (there (key_is.Table u))) ok.0).1 in
      on_done _ done ok.1 (create_stays u split first may gone)
  deed_stays (request_is.DeleteTable u) first may done e = let ok = unless_ok (table_disabled (there (key_is.Table u))) _ done e in on_done _ done ok.1 (delete_stays u may.listed)
  deed_stays (request_is.EnableTable u) first may done e = let ok = unless_ok (table_disabled (there (key_is.Table u))) _ done e in on_done (changed there (key_is.Table u) (in_state state_is.Enabled) ∷ []) done ok.1 (λ t. altered_whole n there u (in_state state_is.Enabled) t (whole t))
  deed_stays (request_is.DisableTable u) first may done e = let ok = unless_ok (table_enabled (there (key_is.Table u))) _ done e in on_done (changed there (key_is.Table u) (in_state state_is.Disabled) ∷ []) done ok.1 (λ t. altered_whole n there u (in_state state_is.Disabled) t (whole t))
  deed_stays (request_is.ModifyTable u version) first may done e = let ok = unless_ok (table_disabled (there (key_is.Table u))) _ done e in on_done (changed there (key_is.Table u) (in_version version) ∷ []) done ok.1 (λ t. altered_whole n there u (in_version version) t (whole t))
  deed_stays (request_is.SplitRegion region key) first may done e = let ok = unless_ok (can_split (there (key_is.Table region.table)) (there (key_is.Region region)) key) _ done e in on_done _ done ok.1 (split_stays region key first may ok.0)
  deed_stays (request_is.MergeRegions regions) first may done e = let ok = unless_ok (cause_of_merge (table_of_first regions) there regions) _ done e in on_done _ done ok.1 (merge_stays regions first may ok.0)
  deed_stays (request_is.Move region to) first may done e = let ok = unless_ok (region_ready (there (key_is.Table region.table)) (there (key_is.Region region))) [] done e in on_done [] done ok.1 whole

-- the regions to which a deed gives rows were there or are drawn
module _ (d : TableName → ℕ → Type 0) (there : Catalog) (keys : List CatKey) (rows : SeenDrawn d there) where
  first_drawn : (regions : List Region) (first : ℕ) → ((u : TableName) → table_of_first regions ≡ Some u → (i : ℕ) → first ≤ i → i < first + 1 → d u i) → IsFirstDrawn d first regions
  first_drawn [] first own = tt
  first_drawn (region ∷ more) first own = own region.table refl first (omega arith) (omega arith)

  pub deed_drawn : (request : Request) (first : ℕ) → ((u : TableName) → table_of_request request ≡ Some u → (i : ℕ) → first ≤ i → i < first + new_ids request → d u i) → (done : List Edit) → deed request first keys there ≡ Ok done → AllDrawn d done
  deed_drawn (request_is.CreateNamespace ns) first own done e = subst (AllDrawn d) (unless_ok (namespace_free (there (key_is.Ns ns))) (set_to there (key_is.Ns ns) (Some row_is.Ns) ∷ []) done e).1 (tt, tt, tt)
  deed_drawn (request_is.DropNamespace ns) first own done e = subst (AllDrawn d) (unless_ok (namespace_empty (there (key_is.Ns ns)) (has_table ns (rows_in_ns ns keys there))) (set_to there (key_is.Ns ns) None ∷ []) done e).1 (tt, tt, tt)
  deed_drawn (request_is.CreateTable u split) first own done e =
      subst (AllDrawn d) (unless_ok (table_free (there (key_is.Ns u.ns)) (there (key_is.Table u))) (set_to there (key_is.Table u) (Some (row_is.Table state_is.Enabled 1)) ∷ add_ranges there u first (ranges_between ([] ∷ split ++ [] ∷ []))) done e).1
      (tt, tt, between_fine d there rows u first ([] ∷ split ++ [] ∷ []) (λ i low high. (let size : suc (length (split ++ [] ∷ [])) ≡ suc (length split + 1) = ap suc (length-append split ([] ∷ [])) in let more : i + 1 < first + suc (length (split ++ [] ∷ [])) = high in own u refl i low (omega (arith, size, more)))))
  deed_drawn (request_is.DeleteTable u) first own done e =
      subst (AllDrawn d) (unless_ok (table_disabled (there (key_is.Table u))) (set_to there (key_is.Table u) None ∷ remove_regions there (regions_of u keys there)) done e).1
      (tt, tt, remove_fine d there rows (regions_of u keys there))
  deed_drawn (request_is.EnableTable u) first own done e = subst (AllDrawn d) (unless_ok (table_disabled (there (key_is.Table u))) (changed there (key_is.Table u) (in_state state_is.Enabled) ∷ []) done e).1 (tt, tt, tt)
  deed_drawn (request_is.DisableTable u) first own done e = subst (AllDrawn d) (unless_ok (table_enabled (there (key_is.Table u))) (changed there (key_is.Table u) (in_state state_is.Disabled) ∷ []) done e).1 (tt, tt, tt)
  deed_drawn (request_is.ModifyTable u version) first own done e = subst (AllDrawn d) (unless_ok (table_disabled (there (key_is.Table u))) (changed there (key_is.Table u) (in_version version) ∷ []) done e).1 (tt, tt, tt)
  deed_drawn (request_is.SplitRegion region key) first own done e =
      subst (AllDrawn d) (unless_ok (can_split (there (key_is.Table region.table)) (there (key_is.Region region)) key) (split_edits there region key first) done e).1
      (split_fine d there rows region key first (λ i low high. own region.table refl i low high))
  deed_drawn (request_is.MergeRegions regions) first own done e =
      subst (AllDrawn d) (unless_ok (cause_of_merge (table_of_first regions) there regions) (merge_edits there regions first) done e).1
      (merge_fine d there rows regions first (first_drawn regions first own))
  deed_drawn (request_is.Move region to) first own done e = subst (AllDrawn d) (unless_ok (region_ready (there (key_is.Table region.table)) (there (key_is.Region region))) [] done e).1 tt
