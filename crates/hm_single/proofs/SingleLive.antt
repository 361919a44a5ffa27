-- Single assignment over overlapping ranges, since regions with a place are live.
use Rattle.std.proofs.lemmas.Option.{same_Some}
use Rattle.std.proofs.Common.{Bool, if◌then◌else◌}
use Rattle.hm_data.specs.declared.part.Part.{Part}
use Rattle.hm_data.specs.declared.part.Part.TheVariants as part_is
use Rattle.hm_model.specs.Parts.{part_range, part_row}
use Rattle.hm_model.specs.Keys.{same_region}
use Rattle.hm_data.specs.declared.catalog.CatRow.TheVariants as row_is
use Rattle.std.proofs.Common.{◌≡◌, ℕ, List, [], ◌∷◌, true, false, ◌&&◌, cond, Option, Some, None, is_some, refl, ap, sym, ◌∙◌, subst, inl, inr}
use Rattle.std.proofs.lemmas.Bool.{and_from, and_left, and_parts, cases_Bool, cond-false, cond-true, or_cases, true≢false}
use Rattle.std.proofs.lemmas.Option.{none-some}
use Rattle.hm_names.specs.Region.{Region}
use Rattle.hm_names.specs.Server.{Server}
use Rattle.hm_names.specs.declared.pid.Pid.{Pid}
use Rattle.hm_names.specs.declared.range.KeyRange.{KeyRange}
use Rattle.hm_data.specs.declared.call.Verb.{Verb}
use Rattle.hm_data.specs.declared.call.Verb.TheVariants as verb_is
use Rattle.hm_data.specs.declared.catalog.CatKey.TheVariants as key_is
use Rattle.hm_data.specs.declared.catalog.CatRow.{CatRow}
use Rattle.hm_data.specs.declared.catalog.Edit.{Edit}
use Rattle.hm_data.specs.declared.entry.Entry.TheVariants as entry_is
use Rattle.hm_data.specs.declared.step.StepOut.{StepOut}
use Rattle.hm_model.specs.Answers.{last_answer}
use Rattle.hm_model.specs.Catalog.{cat, edited}
use Rattle.hm_model.specs.Journal.{Past}
use Rattle.hm_model.specs.Keys.{same_key, same_region, same_table}
use Rattle.hm_model.specs.Places.{place_of}
use Rattle.hm_model.specs.Ranges.{IsLiveWith}
use Rattle.hm_model.specs.Reports.{last_call, verb_of}
use Rattle.hm_model.specs.RowsSaid.{range_in}
use Rattle.hm_model.specs.Rules.{IsLegal}
use Rattle.hm_model.specs.Single.{IsBasedAt, IsLeft, IsOver, MayCall, overlap_if, range_of, ranged, ranged_by, touches}
use Rattle.hm_model.specs.TransitActs.{is_placed}
use Rattle.hm_model.proofs.KeyTests.{cases_key, same_key-refl, same_region-is, same_table-is}
use Rattle.hm_model.proofs.LegalSteps.{StepFacts, ready_stops}
use Rattle.hm_model.proofs.StepDoes.{Does}
use Rattle.hm_model.proofs.Free.{step_free}
use Rattle.hm_model.proofs.Trees.{Grown, call_mine, does_of, grown_all, step_of}
use Rattle.hm_cover.proofs.Never.{never_overlap}
use Rattle.hm_single.specs.Calls.{IsVoid, MayOpen, PlacedAreLive}
use Rattle.hm_single.specs.Theorem.{SingleOverRanges}
use Rattle.hm_single.proofs.All.{kept_all, openings_single}
use Rattle.hm_single.proofs.Keeps.{finds_open, void_left, void_over}
use Rattle.hm_single.proofs.Kept.{Lasting}
use Rattle.hm_single.proofs.Live.{all_live}
use Rattle.hm_single.proofs.Placed.{between_placed, caller_between, unplaced_free}
use Rattle.hm_single.proofs.Stage.{called_region}

-- a range that is told is that of the row, if it has one
abbrev IsRanged : Option CatRow → Option KeyRange → Type 0
IsRanged row told = (range : KeyRange) → range_in row ≡ Some range → told ≡ Some range

ranged_one : (edit : Edit) (region : Region) (row : Option CatRow) (told : Option KeyRange) → IsRanged row told → IsRanged (cond (same_key (key_is.Region region) edit.key) edit.after row) (ranged_by edit region told)
ranged_one edit region row told before = elim (cases_key (key_is.Region region) edit.key) [
  | inl same ↦ subst (λ o. IsRanged o (ranged_by edit region told)) (sym (cond-true (same_key (key_is.Region region) edit.key) edit.after row same.0)) (λ range is.
      cond-true (same_key edit.key (key_is.Region region) && is_some (range_in edit.after)) (range_in edit.after) told
      (and_from (same_key edit.key (key_is.Region region)) (is_some (range_in edit.after)) (ap (λ k. same_key k (key_is.Region region)) (sym same.1) ∙ same_key-refl (key_is.Region region)) (ap is_some is)) ∙ is)
  | inr differs ↦ subst (λ o. IsRanged o (ranged_by edit region told)) (sym (cond-false (same_key (key_is.Region region) edit.key) edit.after row differs.0)) (λ range is.
      cond-false (same_key edit.key (key_is.Region region) && is_some (range_in edit.after)) (range_in edit.after) told (and_left (same_key edit.key (key_is.Region region)) (is_some (range_in edit.after)) (off differs.1)) ∙ before range is)
]
  where
    off : (key_is.Region region ≡ edit.key → ⊥) → same_key edit.key (key_is.Region region) ≡ false
    off differs = elim (cases_key edit.key (key_is.Region region)) [ inl same ↦ absurd (differs (sym same.1)) | inr other ↦ other.0 ]

ranged_all : (edits : List Edit) (region : Region) (row : Option CatRow) (told : Option KeyRange) → IsRanged row told → IsRanged (edited edits (key_is.Region region) row) (ranged edits region told)
ranged_all [] region row told before = before
ranged_all (edit ∷ edits) region row told before = ranged_all edits region (cond (same_key (key_is.Region region) edit.key) edit.after row) (ranged_by edit region told) (ranged_one edit region row told before)

-- the range that a journal gave a region last is that of its row
range_now : (J : Past) (region : Region) → IsRanged (cat J (key_is.Region region)) (range_of J region)
range_now [] region range is = absurd (none-some range is)
range_now (entry_is.Step pid pick out ∷ J) region range is = ranged_all out.edits region (cat J (key_is.Region region)) (range_of J region) (range_now J region) range is
range_now (entry_is.Undo pid row out ∷ J) region range is = ranged_all out.edits region (cat J (key_is.Region region)) (range_of J region) (range_now J region) range is
range_now (entry_is.Base part ∷ J) region range is = part_range_now part (cat J (key_is.Region region)) (range_of J region) (range_now J region) range is
  where
    part_range_now : (part : Part) (row : Option CatRow) (told : Option KeyRange) → IsRanged row told → IsRanged (part_row part (key_is.Region region) row) (part_range part region told)
    part_range_now (part_is.Head entries last parts sheets) row told was = λ now is. absurd (none-some now is)
    part_range_now (part_is.Region own range status parents place) row told was = by (same_region region own)
      where
        by : (b : Bool) → IsRanged (if b then Some (row_is.Region range status parents) else row) (if b then Some range else told)
        by true now is = ap Some (same_Some range now is)
        by false now is = was now is
    part_range_now part row told was = was
range_now (entry ∷ J) region range is = range_now J region range is

live_range : (J : Past) (region : Region) (range : KeyRange) → IsLiveWith (cat J) region range → range_of J region ≡ Some range
live_range J region range live = range_now J region range (ap range_in live.1)

module _ (pid : Pid) (pick : Option Server) (out : StepOut) (J : Past) (legal : IsLegal (entry_is.Step pid pick out ∷ J)) (live : PlacedAreLive J) (region : Region) (call : out.call ≡ Some (verb_is.AssignRegion region)) where
  abbrev grown : Grown J
  grown = grown_all J legal.0

  abbrev kept : Lasting J
  kept = kept_all J legal.0

  abbrev step : StepFacts J pid.0 pick out
  step = step_of pid pick out J (grown_all J legal.0) legal

  abbrev does : Does J pid.0 step.node.args (last_answer J pid.0) step.sheet.rows out
  does = does_of pid pick out J (grown_all J legal.0) step

  -- the region has its place
  own_placed : is_placed (place_of J region) ≡ true
  own_placed =
      let mine = call_mine pid pick out J grown step does (verb_is.AssignRegion region) call in
      between_placed J region (caller_between J region kept pid.0 step.node step.node_is (sym (called_region step.node.args (verb_is.AssignRegion region) mine.0)) (ready_stops J pid.0 step.node (last_answer J pid.0) step.ready))

  own_over : (p : ℕ) (other : Region) → other ≡ region → verb_of J p ≡ Some (verb_is.AssignRegion other) → IsOver J p other
  own_over p other same is = subst (IsOver J p) (sym same) (may (openings_single pid pick out J legal) p (is ∙ ap (λ r. Some (verb_is.AssignRegion r)) same))
    where
      may : MayOpen J out.call → (q : ℕ) → verb_of J q ≡ Some (verb_is.AssignRegion region) → IsOver J q region
      may h = subst (MayOpen J) call h

  -- another region with a place doesn't overlap it
  apart : (other : Region) → (region ≡ other → ⊥) → same_table region.table other.table ≡ true → is_placed (place_of J other) ≡ true → overlap_if (range_of J region) (range_of J other) ≡ true → ⊥
  apart other differs table placed over =
      let one = live region own_placed in
      let two = live other placed in
      true≢false (sym over ∙ ap (λ o. overlap_if o (range_of J other)) (live_range J region one.0 one.1) ∙ ap (overlap_if (Some one.0)) (live_range J other two.0 two.1)
      ∙ never_overlap J legal.0 region.table region other one.0 two.0 refl (sym (same_table-is region.table other.table table)) differs one.1 two.1)

  each_over : (p : ℕ) (other : Region) → verb_of J p ≡ Some (verb_is.AssignRegion other) → touches J region other ≡ true → IsOver J p other
  each_over p other is touch = elim (or_cases (same_region region other) (same_table region.table other.table && overlap_if (range_of J region) (range_of J other)) touch) [
    | inl same ↦ own_over p other (sym (same_region-is region other same)) is
    | inr both ↦
        let parts = and_parts (same_table region.table other.table) (overlap_if (range_of J region) (range_of J other)) both in
        elim (cases_Bool (same_region region other)) [
          | inl same ↦ own_over p other (sym (same_region-is region other same)) is
          | inr off ↦ elim (cases_Bool (is_placed (place_of J other))) [
            | inl placed ↦ absurd (apart other (λ same. true≢false (sym (Rattle.hm_model.proofs.KeyTests.same_region-refl region) ∙ ap (same_region region) same ∙ off)) parts.0 placed parts.1)
            | inr unplaced ↦ void_over pid pick out J grown kept step does (step_free pid pick out J legal) other p is (kept.settled other p is) (unplaced_free J legal.0 other unplaced).0
          ]
        ]
  ]

  -- each region that the base has open and that touches it was left
  each_left : (other : Region) (server : Server) → IsBasedAt J other server → touches J region other ≡ true → IsLeft J other server
  each_left other server based touch = elim (or_cases (same_region region other) (same_table region.table other.table && overlap_if (range_of J region) (range_of J other)) touch) [
    | inl same ↦ own_left (same_region-is region other same)
    | inr both ↦
        let parts = and_parts (same_table region.table other.table) (overlap_if (range_of J region) (range_of J other)) both in
        elim (cases_Bool (same_region region other)) [
          | inl same ↦ own_left (same_region-is region other same)
          | inr off ↦ elim (cases_Bool (is_placed (place_of J other))) [
            | inl placed ↦ absurd (apart other (λ same. true≢false (sym (Rattle.hm_model.proofs.KeyTests.same_region-refl region) ∙ ap (same_region region) same ∙ off)) parts.0 placed parts.1)
            | inr unplaced ↦ left (unplaced_free J legal.0 other unplaced).0
          ]
        ]
  ]
    where
      left : IsVoid J other (last_call J other) → IsLeft J other server
      left void = void_left pid pick out J grown kept step does (step_free pid pick out J legal) other server based (kept.based other server based) void

      own_left : region ≡ other → IsLeft J other server
      own_left same = left (subst (λ r. IsVoid J r (last_call J r)) same (finds_open pid pick out J grown kept step does (step_free pid pick out J legal) region call).0)

step_single : (pid : Pid) (pick : Option Server) (out : StepOut) (J : Past) → IsLegal (entry_is.Step pid pick out ∷ J) → PlacedAreLive J → MayCall J out.call
step_single pid pick out J legal live = by out.call refl
  where
    by : (o : Option Verb) → out.call ≡ o → MayCall J o
    by None e = tt
    by (Some (verb_is.AssignRegion region)) e = (each_over pid pick out J legal live region e, each_left pid pick out J legal live region e)
    by (Some (verb_is.CloseRegion region)) e = tt
    by (Some (verb_is.Fence server)) e = tt
    by (Some (verb_is.Layout root)) e = tt
    by (Some (verb_is.Sweep root)) e = tt

pub single_over : SingleOverRanges
single_over [] legal = tt
single_over (entry_is.Step pid pick out ∷ J) legal = (single_over J legal.0, step_single pid pick out J legal (all_live J legal.0))
single_over (entry_is.Base part ∷ J) legal = tt
single_over (entry ∷ J) legal = single_over J legal.0
