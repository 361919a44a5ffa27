-- No root closes a region that its request drew: such a region has no row when the root tests those that it is to close.
use Rattle.std.proofs.Common.{◌≡◌, ◌≢◌, ℕ, ◌+◌, ◌<◌, ◌≤◌, List, [], ◌∷◌, Bool, true, false, Option, Some, None, is_none, refl, ap, sym, ◌∙◌, subst, inl, inr, arith}
use Rattle.std.specs.List.{list_any}
use Rattle.std.proofs.lemmas.Bool.{cases_Bool, cond-true, false≢true, or_left, or_parts, true≢false}
use Rattle.std.proofs.lemmas.Option.{none-some, same_Some}
use Rattle.hm_names.specs.Region.{Region}
use Rattle.hm_names.specs.Server.{Server}
use Rattle.hm_names.specs.declared.pid.Pid.{Pid}
use Rattle.hm_data.specs.declared.act.Act.{Act}
use Rattle.hm_data.specs.declared.answer.Cause.TheVariants as cause_is
use Rattle.hm_data.specs.declared.args.Args.TheVariants as args_are
use Rattle.hm_data.specs.declared.catalog.CatKey.TheVariants as key_is
use Rattle.hm_data.specs.declared.catalog.CatRow.{CatRow}
use Rattle.hm_data.specs.declared.catalog.Edit.{Edit}
use Rattle.hm_data.specs.declared.entry.Entry.TheVariants as entry_is
use Rattle.hm_data.specs.declared.request.Request.{Request}
use Rattle.hm_data.specs.declared.request.Request.TheVariants as request_is
use Rattle.hm_data.specs.declared.step.StepOut.{StepOut}
use Rattle.hm_model.specs.declared.lock.Resource.TheVariants as resource_is
use Rattle.hm_model.specs.Answers.{last_answer}
use Rattle.hm_model.specs.Catalog.{Catalog, was}
use Rattle.hm_model.specs.Checks.{are_adjacent, by_start, can_split, key_inside, parts_of, region_ready, regions_live, rows_of, table_enabled}
use Rattle.hm_model.specs.Deeds.{cause_of_merge}
use Rattle.hm_model.specs.Journal.{Past}
use Rattle.hm_model.specs.Kinds.{kind_of, request_kind, table_of_first, table_of_request}
use Rattle.hm_model.specs.Lists.{Line, exact_rows, lines_of}
use Rattle.hm_model.specs.Locks.{IsIn}
use Rattle.hm_model.specs.Phase.{or_else, root_ended}
use Rattle.hm_model.specs.Reads.{covers, reads}
use Rattle.hm_model.specs.Requests.{are_siblings, wrong_in}
use Rattle.hm_model.specs.RowsSaid.{range_in, status_in}
use Rattle.hm_model.specs.Rules.{IsLegal}
use Rattle.hm_model.specs.Serial.{serial}
use Rattle.hm_model.specs.Tree.{new_ids}
use Rattle.hm_model.specs.Undoing.{closed_by_request}
use Rattle.hm_model.specs.Views.{asked_of}
use Rattle.hm_model.specs.Whereabouts.{moved_by}
use Rattle.hm_model.proofs.Parted.{no_half}
use Rattle.hm_model.proofs.ExactRows.{begin_alike, first_act}
use Rattle.hm_model.proofs.KeyTests.{same_region-refl}
use Rattle.hm_model.proofs.Siblings.{merge_is, one_table}
use Rattle.hm_model.proofs.LegalSteps.{StepFacts, ready_stops}
use Rattle.hm_model.proofs.Tops.{TopHolds}
use Rattle.hm_model.proofs.Trees.{grown_all}
use Rattle.hm_model.proofs.Answered.{or_none, running_undone}
use Rattle.hm_kinds.proofs.Covering.{covers_from, merge_own}
use Rattle.hm_kinds.proofs.LockForms.{IsRight}
use Rattle.hm_kinds.proofs.MergeRegions.{Merging}
use Rattle.hm_kinds.proofs.Roots.{Stage, StageOf}
use Rattle.hm_kinds.proofs.SplitRegion.{Splitting}
use Rattle.hm_serial.proofs.FallAll.{falls_all}
use Rattle.hm_serial.proofs.StandAll.{stands_all}
use Rattle.hm_serial.proofs.Standing.{step_open}
use Rattle.hm_cover.proofs.SerialWhole.{whole_all}
use Rattle.hm_cover.proofs.Whole.{key_of_id}
use Rattle.hm_single.specs.Calls.{closes_first}
use Rattle.hm_single.proofs.Own.{Own, does, own, root_is, step}
use Rattle.hm_model.specs.MadeOf.{Making, Which, making}
use Rattle.hm_data.specs.declared.place.Goal.TheVariants as goal_is

-- a region has an id that a request drew
abbrev pub IsNewOf : Request → ℕ → Region → Type 0
IsNewOf request first region = (first ≤ region.id) × (region.id < first + new_ids request)

-- roots that close regions first list their rows, and move no region themselves
pub closing_lined : (request : Request) (first : ℕ) → closes_first request ≡ true → (exact_rows (kind_of (args_are.Root request first)) ≡ []) × (moved_by (args_are.Root request first) ≡ None)
closing_lined (request_is.DisableTable t) first h = (refl, refl)
closing_lined (request_is.SplitRegion own_region key) first h = (refl, refl)
closing_lined (request_is.MergeRegions regions) first h = (refl, refl)
closing_lined request first h = absurd (false≢true h)

-- the acts that close the regions that a request names
abbrev pub closes_made : Making → Bool
closes_made (Making.moves goal_is.Unassign Which.closed) = true
closes_made making = false

abbrev pub is_closing : Act → Bool
is_closing act = closes_made (making act)

-- no first act of a request does
first_checks : (request : Request) → closes_first request ≡ true → (act : Act) → Some act ≡ first_act (lines_of (request_kind request)) → is_closing act ≡ false
first_checks (request_is.DisableTable t) h act is = ap is_closing (same_Some act _ is)
first_checks (request_is.SplitRegion own_region key) h act is = ap is_closing (same_Some act _ is)
first_checks (request_is.MergeRegions regions) h act is = ap is_closing (same_Some act _ is)
first_checks request h act is = absurd (false≢true h)

-- rows of live regions are there
none_missing : (rows : List (Option CatRow)) → regions_live rows ≡ None → list_any (λ row. is_none (status_in row)) rows ≡ false
none_missing rows live = elim (cases_Bool (list_any (λ row. is_none (status_in row)) rows)) [
  | inr off ↦ off
  | inl on ↦ absurd (none-some cause_is.RegionMissing (sym live ∙ cond-true (list_any (λ row. is_none (status_in row)) rows) (Some cause_is.RegionMissing) _ on))
]

-- a region among them has a row
row_there : (base : Catalog) (regions : List Region) → list_any (λ row. is_none (status_in row)) (rows_of base regions) ≡ false → (r : Region) → IsIn r regions → base (key_is.Region r) ≢ None
row_there base [] h r among none = among
row_there base (region ∷ more) h r (inl same) none =
    let here = (or_parts (is_none (status_in (base (key_is.Region region)))) (list_any (λ row. is_none (status_in row)) (rows_of base more)) h).0 in
    true≢false (sym (ap (λ x. is_none (status_in (base (key_is.Region x)))) (sym same) ∙ ap (λ o. is_none (status_in o)) none) ∙ here)
row_there base (region ∷ more) h r (inr later) none =
    row_there base more (or_parts (is_none (status_in (base (key_is.Region region)))) (list_any (λ row. is_none (status_in row)) (rows_of base more)) h).1 r later none

-- the region that can be split has a row
split_there : (own_region : Region) (key : List ℕ) (base : Catalog) → can_split (base (key_is.Table own_region.table)) (base (key_is.Region own_region)) key ≡ None → (r : Region) → IsIn r (own_region ∷ []) → base (key_is.Region r) ≢ None
split_there own_region key base can r among =
    let one = or_none (region_ready (base (key_is.Table own_region.table)) (base (key_is.Region own_region))) (key_inside (range_in (base (key_is.Region own_region))) key) can in
    let two = or_none (table_enabled (base (key_is.Table own_region.table))) (regions_live (base (key_is.Region own_region) ∷ [])) one.0 in
    row_there base (own_region ∷ []) (none_missing (base (key_is.Region own_region) ∷ []) two.1) r among

-- so do those that can be merged
merge_there : (regions : List Region) (base : Catalog) → cause_of_merge (table_of_first regions) base regions ≡ None → (r : Region) → IsIn r regions → base (key_is.Region r) ≢ None
merge_there [] base can r among = absurd among
merge_there (region ∷ more) base can r among =
    let one = or_none (table_enabled (base (key_is.Table region.table))) (or_else (regions_live (rows_of base (region ∷ more))) (are_adjacent (by_start (parts_of base (region ∷ more))))) can in
    let two = or_none (regions_live (rows_of base (region ∷ more))) (are_adjacent (by_start (parts_of base (region ∷ more)))) one.1 in
    row_there base (region ∷ more) (none_missing (rows_of base (region ∷ more)) two.0) r among

-- at such an act the regions that the request names were there before its first step
closed_there : (request : Request) (first : ℕ) (base : Catalog) (line : Line) (behind : List Line) (then : List Edit) → StageOf request first base (line ∷ behind) then → closes_first request ≡ true → is_closing line.act ≡ true
    → (r : Region) → IsIn r (closed_by_request request) → base (key_is.Region r) ≢ None
closed_there (request_is.SplitRegion own_region key) first base line behind then Splitting.begins h c r among = absurd (false≢true c)
closed_there (request_is.SplitRegion own_region key) first base line behind then (Splitting.found can) h c r among = split_there own_region key base can r among
closed_there (request_is.SplitRegion own_region key) first base line behind then (Splitting.closed can) h c r among = absurd (false≢true c)
closed_there (request_is.SplitRegion own_region key) first base line behind then Splitting.starts h c r among = absurd (false≢true c)
closed_there (request_is.SplitRegion own_region key) first base line behind then (Splitting.tested can) h c r among = absurd (false≢true c)
closed_there (request_is.SplitRegion own_region key) first base line behind then (Splitting.ahead can) h c r among = split_there own_region key base can r among
closed_there (request_is.SplitRegion own_region key) first base line behind then (Splitting.laid can) h c r among = absurd (false≢true c)
closed_there (request_is.SplitRegion own_region key) first base line behind then (Splitting.told can) h c r among = absurd (false≢true c)
closed_there (request_is.SplitRegion own_region key) first base line behind then (Splitting.opened can) h c r among = absurd (false≢true c)
closed_there (request_is.MergeRegions regions) first base line behind then Merging.begins h c r among = absurd (false≢true c)
closed_there (request_is.MergeRegions regions) first base line behind then (Merging.found can) h c r among = merge_there regions base can r among
closed_there (request_is.MergeRegions regions) first base line behind then (Merging.closed can) h c r among = absurd (false≢true c)
closed_there (request_is.MergeRegions regions) first base line behind then (Merging.laid can) h c r among = absurd (false≢true c)
closed_there (request_is.MergeRegions regions) first base line behind then (Merging.told can) h c r among = absurd (false≢true c)
closed_there (request_is.MergeRegions regions) first base line behind then (Merging.opened can) h c r among = absurd (false≢true c)
closed_there (request_is.DisableTable t) first base line behind then stage h c r among = absurd among
closed_there request first base line behind then stage h c r among = absurd (false≢true h)

-- the request asks for each of them alone
pub closed_covered : (request : Request) (first : ℕ) → closes_first request ≡ true → (r : Region) → IsIn r (closed_by_request request) → covers (args_are.Root request first) (key_is.Region r) ≡ true
closed_covered (request_is.SplitRegion own_region key) first h r (inl same) =
    ap (λ x. covers (args_are.Root (request_is.SplitRegion own_region key) first) (key_is.Region x)) same
    ∙ covers_from (args_are.Root (request_is.SplitRegion own_region key) first) (resource_is.Region own_region) (key_is.Region own_region) (inr (inr (inl refl))) (same_region-refl own_region)
closed_covered (request_is.SplitRegion own_region key) first h r (inr never) = absurd never
closed_covered (request_is.MergeRegions regions) first h r among =
    covers_from (args_are.Root (request_is.MergeRegions regions) first) (resource_is.Region r) (key_is.Region r) (merge_own regions first r among) (same_region-refl r)
closed_covered (request_is.DisableTable t) first h r among = absurd among
closed_covered request first h r among = absurd (false≢true h)

-- regions that can be merged are of the table of the first
merge_table : (regions : List Region) → are_siblings regions ≡ true → (r : Region) → IsIn r regions → table_of_first regions ≡ Some r.table
merge_table [] siblings r among = absurd among
merge_table (region ∷ more) siblings r among = ap Some (one_table region more siblings r among)

-- the regions that a request names are of its table
closed_table : (request : Request) → closes_first request ≡ true → wrong_in request ≡ None → (r : Region) → IsIn r (closed_by_request request) → table_of_request request ≡ Some r.table
closed_table (request_is.SplitRegion own_region key) h right r (inl same) = ap (λ (x : Region). Some x.table) (sym same)
closed_table (request_is.SplitRegion own_region key) h right r (inr never) = absurd never
closed_table (request_is.MergeRegions regions) h right r among = merge_table regions (merge_is regions right).siblings r among
closed_table (request_is.DisableTable t) h right r among = absurd among
closed_table request h right r among = absurd (false≢true h)

-- a step by which a root closes such regions
module _ (pid : Pid) (pick : Option Server) (out : StepOut) (J : Past) (legal : IsLegal (entry_is.Step pid pick out ∷ J)) where
  abbrev its : StepFacts J pid.0 pick out
  its = step pid pick out J legal

  module _ (top : its.node.above ≡ []) (request : Request) (first : ℕ) (args_is : its.node.args ≡ args_are.Root request first) (h : closes_first request ≡ true) (closing : is_closing its.row.act ≡ true) where
    abbrev exact : exact_rows (kind_of its.node.args) ≡ []
    exact = ap (λ a. exact_rows (kind_of a)) args_is ∙ (closing_lined request first h).0

    abbrev mine : Own pid pick out J legal top exact
    mine = own pid pick out J legal top exact

    begun : last_answer J pid.0 ≢ None
    begun none = true≢false (sym (ap is_closing (sym mine.act_is) ∙ closing) ∙ first_checks request h mine.line.act (begin_alike (kind_of its.node.args) (mine.line ∷ mine.behind) (mine.fresh none).1 ∙ ap (λ a. first_act (lines_of (kind_of a))) args_is))

    holds : TopHolds J pid.0 its.node
    holds = ((its.node_is, top), begun, subst (λ r. root_ended J r ≡ false) (root_is pid pick out J legal top exact) (step_open pid pick out J (grown_all J legal.0) its (does pid pick out J legal)))

    right : wrong_in request ≡ None
    right = subst IsRight args_is ((falls_all J legal.0).asked pid.0 its.node its.node_is)

    -- a row with an id that it drew was none when it began
    new_none : (n : ℕ) → 4096 < n → (r : Region) → IsIn r (closed_by_request request) → IsNewOf request first r → was J pid.0 (key_is.Region r) ≡ None
    new_none n big r among new =
        let guarded = or_left (covers its.node.args (key_is.Region r)) (reads its.node.args (key_is.Region r)) (ap (λ a. covers a (key_is.Region r)) args_is ∙ closed_covered request first h r among) in
        sym (((stands_all J legal.0).tree pid.0 its.node holds).base (key_is.Region r) guarded)
        ∙ ap (serial J) (sym (key_of_id r r.table refl))
        ∙ (whole_all n big J legal.0 (no_half J legal.1.0)).free pid.0 its.node (record { request = request; first = first }) its.node_is (ap asked_of args_is) (running_undone (last_answer J pid.0) (ready_stops J pid.0 its.node (last_answer J pid.0) its.ready)) r.table r.id (closed_table request h right r among, new.0, new.1)

    was_there : (r : Region) → IsIn r (closed_by_request request) → was J pid.0 (key_is.Region r) ≢ None
    was_there r among none =
        closed_there request first mine.base mine.line mine.behind mine.then (subst (λ a. Stage a mine.base (mine.line ∷ mine.behind) mine.then) args_is mine.stage) h (ap is_closing (sym mine.act_is) ∙ closing) r among
        (ap (λ (c : Catalog). c (key_is.Region r)) (mine.begun begun) ∙ none)

    pub closes_old : (r : Region) → IsIn r (closed_by_request request) → IsNewOf request first r → ⊥
    closes_old r among new = was_there r among (new_none 4097 (omega arith) r among new)
