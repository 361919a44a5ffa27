-- A region whose place isn't that of the start has an id that its table drew.
use Rattle.std.proofs.Common.{◌≡◌, ℕ, ◌≤◌, [], ◌∷◌, Bool, true, false, ◌&&◌, ◌||◌, not, cond, Option, Some, None, refl, ap, sym, ◌∙◌, subst, inl, inr, ◌⊎◌, slice_get, arith}
use Rattle.std.proofs.lemmas.Bool.{and_parts, cases_Bool, cond-false, cond-true, true≢false}
use Rattle.std.proofs.lemmas.Option.{none-some, same_Some}
use Rattle.hm_names.specs.Region.{Region}
use Rattle.hm_names.specs.Server.{Server}
use Rattle.hm_names.specs.declared.pid.Pid.{Pid}
use Rattle.hm_data.specs.declared.act.Act.TheVariants as act_is
use Rattle.hm_data.specs.declared.answer.Answer.TheVariants as answer_is
use Rattle.hm_data.specs.declared.answer.Cause.{Cause}
use Rattle.hm_data.specs.declared.call.Told.TheVariants as told_is
use Rattle.hm_data.specs.declared.catalog.CatKey.TheVariants as key_is
use Rattle.hm_data.specs.declared.entry.Entry.TheVariants as entry_is
use Rattle.hm_data.specs.declared.part.Part.{Part}
use Rattle.hm_data.specs.declared.part.Part.TheVariants as part_is
use Rattle.hm_data.specs.declared.place.Goal.{Goal}
use Rattle.hm_data.specs.declared.place.Place.{Place}
use Rattle.hm_data.specs.declared.place.RegionState.TheVariants as place_is
use Rattle.hm_data.specs.declared.sheet.Row.{Row}
use Rattle.hm_data.specs.declared.step.StepIn.{StepIn}
use Rattle.hm_data.specs.declared.step.StepOut.{StepOut}
use Rattle.hm_model.specs.Acts.{act_answer}
use Rattle.hm_model.specs.Answers.{last_answer, row_of}
use Rattle.hm_model.specs.Base.{PartFits}
use Rattle.hm_model.specs.Catalog.{row_at}
use Rattle.hm_model.specs.Checks.{region_ready}
use Rattle.hm_model.specs.Inputs.{place_if, step_input}
use Rattle.hm_model.specs.Journal.{Past}
use Rattle.hm_model.specs.Keys.{same_region, same_table}
use Rattle.hm_model.specs.Lists.{exact_rows, fixed}
use Rattle.hm_model.specs.Outs.{checked, ends_with, given, places}
use Rattle.hm_model.specs.Places.{place_of, placed_by, region_if}
use Rattle.hm_model.specs.Reports.{is_the_region}
use Rattle.hm_model.specs.Rules.{IsLegal}
use Rattle.hm_model.specs.RowsSaid.{Rows}
use Rattle.hm_model.specs.TransitActs.{candidate, close_or_go, is_open, is_placed, is_state, lost_if, may_open_in, nowhere, told_place}
use Rattle.hm_model.specs.Tree.{drawn, node_of}
use Rattle.hm_model.specs.Views.{region_of}
use Rattle.hm_model.specs.Wanted.{goal_in}
use Rattle.hm_model.proofs.KeyTests.{same_region-Decides, same_table-is}
use Rattle.hm_model.proofs.LegalSteps.{ready_stops}
use Rattle.hm_model.proofs.Rising.{table_new}
use Rattle.hm_model.proofs.Trees.{grown_all}
use Rattle.hm_ids.proofs.DrawnAll.{ids_are_drawn}
use Rattle.hm_single.proofs.All.{kept_all}
use Rattle.hm_single.proofs.Live.{all_live}
use Rattle.hm_single.proofs.Own.{cut_or, does, step}
use Rattle.hm_single.proofs.Placing.{free_at, giver, own_row}
use Rattle.hm_single.proofs.Stage.{is_itself, the_region}
use Rattle.hm_single.proofs.Transit.{IsFreeRow}

middle_off : (a b c : Bool) → (a || (b || c)) ≡ false → b ≡ false
middle_off true b c e = absurd (true≢false e)
middle_off false true c e = absurd (true≢false e)
middle_off false false c e = refl

-- what the acts that look at a place give a region that isn't placed
candidate_placed : (o : Option Region) (next : ℕ) (rows : Rows) (place : Place) (fenced : Bool) (pick : Option Server) → is_placed place ≡ false → (here : Place) → (given o next (λ region. candidate next (may_open_in rows region) place fenced pick)).place ≡ Some here → is_placed here ≡ true
candidate_placed None next rows place fenced pick off here e = absurd (none-some here e)
candidate_placed (Some region) next rows place fenced pick off here e = by (may_open_in rows region) e
  where
    by_open : (b : Bool) → (cond b (ends_with told_is.Nothing) (places (answer_is.More next) (Some (record { state = place_is.Opening; server = pick })))).place ≡ Some here → is_placed here ≡ true
    by_open true e = absurd (none-some here e)
    by_open false e = ap is_placed (sym (same_Some (record { state = place_is.Opening; server = pick }) here e))

    by : (b : Bool) → (candidate next b place fenced pick).place ≡ Some here → is_placed here ≡ true
    by false e = absurd (none-some here (ap (λ b. lost_if (b && fenced)) (sym off) ∙ e))
    by true e = by_open (is_open place fenced) e

close_placed : (o : Option Region) (next : ℕ) (goal : Goal) (place : Place) (fenced : Bool) → is_placed place ≡ false → (here : Place) → (given o next (λ region. close_or_go next goal region place (is_open place fenced))).place ≡ Some here → is_placed here ≡ true
close_placed None next goal place fenced off here e = absurd (none-some here e)
close_placed (Some region) next goal place fenced off here e = by (is_open place fenced) refl e
  where
    shut : is_state place_is.Opened place ≡ false
    shut = middle_off (is_state place_is.Opening place) (is_state place_is.Opened place) (is_state place_is.Closing place) off

    by : (b : Bool) → is_open place fenced ≡ b → (close_or_go next goal region place b).place ≡ Some here → is_placed here ≡ true
    by false o e = absurd (none-some here (ap lost_if (sym shut) ∙ e))
    by true o e = absurd (true≢false (sym (and_parts (is_state place_is.Opened place) (not fenced) o).0 ∙ shut))

check_placed : (o : Option Region) (next : ℕ) (rows : Rows) (here : Place) → (given o next (λ region. checked next (region_ready (row_at rows (key_is.Table region.table)) (row_at rows (key_is.Region region))))).place ≡ Some here → is_placed here ≡ true
check_placed None next rows here e = absurd (none-some here e)
check_placed (Some region) next rows here e = by (region_ready (row_at rows (key_is.Table region.table)) (row_at rows (key_is.Region region))) e
  where
    by : (c : Option Cause) → (checked next c).place ≡ Some here → is_placed here ≡ true
    by None e = absurd (none-some here e)
    by (Some cause) e = absurd (none-some here e)

free_placed : (n : ℕ) (row : Row) → IsFreeRow n → slice_get (exact_rows 10) n ≡ Some row → (at : StepIn) → is_placed (told_place at.place) ≡ false → (here : Place) → (act_answer row.act row.next at).place ≡ Some here → is_placed here ≡ true
free_placed n row free is at off here e = by free
  where
    acted : (m : ℕ) (own : Row) → n ≡ m → slice_get (exact_rows 10) m ≡ Some own → (act_answer own.act own.next at).place ≡ Some here
    acted m own same there = ap (λ (r : Row). (act_answer r.act r.next at).place) (same_Some own row (sym there ∙ ap (slice_get (exact_rows 10)) (sym same) ∙ is)) ∙ e

    by : IsFreeRow n → is_placed here ≡ true
    by (inl zero_is) = candidate_placed (region_of at.args) 1 at.rows (told_place at.place) at.fenced at.pick off here (acted 0 (fixed act_is.GetAssignCandidate 1 true) zero_is refl)
    by (inr (inl three)) = close_placed (region_of at.args) 4 (goal_in at.args) (told_place at.place) at.fenced off here (acted 3 (fixed act_is.Close 4 true) three refl)
    by (inr (inr five)) = check_placed (region_of at.args) 3 at.rows here (acted 5 (fixed act_is.CheckMove 3 false) five refl)

-- a step leaves a region's place, or the region is placed before or behind it
step_placed : (pid : Pid) (pick : Option Server) (out : StepOut) (J : Past) → IsLegal (entry_is.Step pid pick out ∷ J) → (region : Region)
    → (place_of (entry_is.Step pid pick out ∷ J) region ≡ place_of J region) ⊎ ((is_placed (place_of J region) ≡ true) ⊎ (is_placed (place_of (entry_is.Step pid pick out ∷ J) region) ≡ true))
step_placed pid pick out J legal region = elim (cases_Bool (is_placed (place_of J region))) [ inl on ↦ inr (inl on) | inr off ↦ by off out.place refl ]
  where
    placed : is_placed (place_of J region) ≡ false → (here : Place) → out.place ≡ Some here → region_if (node_of J pid.0) ≡ Some region → is_placed here ≡ true
    placed off here e own =
        let its = step pid pick out J legal in
        let m = giver pid pick out J (grown_all J legal.0) (kept_all J legal.0) its (does pid pick out J legal) region here e (ap region_if (sym its.node_is) ∙ own) in
        let free = free_at J region (kept_all J legal.0) off pid.0 its.node its.node_is m (ready_stops J pid.0 its.node (last_answer J pid.0) its.ready) in
        elim (cut_or pid pick out J legal) [
          | inl cut ↦ absurd (none-some here (sym (ap (λ (o : StepOut). o.place) cut) ∙ e))
          | inr acts ↦
              free_placed (row_of J pid.0 its.node) its.row free (own_row pid pick out J (grown_all J legal.0) (kept_all J legal.0) its (does pid pick out J legal) region m) (step_input J pid.0 its.node pick)
              (ap (λ o. is_placed (told_place (place_if J o))) m ∙ off) here (sym (ap (λ (o : StepOut). o.place) acts) ∙ e)
        ]

    by : is_placed (place_of J region) ≡ false → (o : Option Place) → out.place ≡ o → (placed_by region (region_if (node_of J pid.0)) out.place (place_of J region) ≡ place_of J region) ⊎ ((is_placed (place_of J region) ≡ true) ⊎ (is_placed (placed_by region (region_if (node_of J pid.0)) out.place (place_of J region)) ≡ true))
    by off None e = inl (ap (λ o. placed_by region (region_if (node_of J pid.0)) o (place_of J region)) e)
    by off (Some here) e =
        let now : placed_by region (region_if (node_of J pid.0)) out.place (place_of J region) ≡ cond (is_the_region region (region_if (node_of J pid.0))) here (place_of J region) = ap (λ o. placed_by region (region_if (node_of J pid.0)) o (place_of J region)) e in
        elim (the_region region (region_if (node_of J pid.0))) [
          | inl own ↦ inr (inr (ap is_placed (now ∙ cond-true (is_the_region region (region_if (node_of J pid.0))) here (place_of J region) (is_itself region (region_if (node_of J pid.0)) own)) ∙ placed off here e own))
          | inr other ↦ inl (now ∙ cond-false (is_the_region region (region_if (node_of J pid.0))) here (place_of J region) other)
        ]

-- its place is that of the start, or its id was drawn
abbrev pub IsKnown : Past → Region → Type 0
IsKnown J region = (place_of J region ≡ nowhere place_is.Offline) ⊎ ((1 ≤ region.id) × (region.id ≤ drawn J region.table))

placed_known : (J : Past) → IsLegal J → (region : Region) → is_placed (place_of J region) ≡ true → (1 ≤ region.id) × (region.id ≤ drawn J region.table)
placed_known J legal region on = let live = all_live J legal region on in ids_are_drawn J legal region.table region.id (λ gone. none-some _ (sym gone ∙ live.1.1))

part_known : (part : Part) (J : Past) → IsLegal J → PartFits part J → (region : Region) → IsKnown J region → IsKnown (entry_is.Base part ∷ J) region
part_known (part_is.Head entries last parts sheets) J legal fits region was = inl (ap (λ X. place_of X region) fits.0)
part_known (part_is.Table own ids row) J legal fits region (inl first) = inl first
part_known (part_is.Table own ids row) J legal fits region (inr had) = inr (elim (cases_Bool (same_table own region.table)) [
  | inl on ↦ let none : drawn J region.table ≡ 0 = ap (drawn J) (sym (same_table-is own region.table on)) ∙ (table_new own ids row J legal fits).1 in absurd (omega (arith, had.0, had.1, none))
  | inr off ↦ (had.0, rw off had.1)
])
part_known (part_is.Region own range status parents place) J legal fits region was = elim (cases_Bool (same_region region own)) [
  | inl on ↦ inr (subst (λ (r : Region). (1 ≤ r.id) × (r.id ≤ drawn J r.table)) (sym ((same_region-Decides region own).0 on)) (fits.1, fits.2))
  | inr off ↦ elim was [ inl first ↦ inl (cond-false (same_region region own) place (place_of J region) off ∙ first) | inr had ↦ inr had ]
]
part_known part J legal fits region was = was

pub known_all : (J : Past) → IsLegal J → (region : Region) → IsKnown J region
known_all [] legal region = inl refl
known_all (entry_is.Submit nonce request ∷ J) legal region = elim (known_all J legal.0 region) [ inl first ↦ inl first | inr had ↦ inr (had.0, (let le = had.1 in omega (arith, le))) ]
known_all (entry_is.Step pid pick out ∷ J) legal region = elim (step_placed pid pick out J legal region) [
  | inl same ↦ elim (known_all J legal.0 region) [ inl first ↦ inl (same ∙ first) | inr had ↦ inr had ]
  | inr either ↦ inr (elim either [ inl before ↦ placed_known J legal.0 region before | inr behind ↦ placed_known (entry_is.Step pid pick out ∷ J) legal region behind ])
]
known_all (entry_is.Base part ∷ J) legal region = part_known part J legal.0 legal.1.0 region (known_all J legal.0 region)
known_all (entry ∷ J) legal region = known_all J legal.0 region
