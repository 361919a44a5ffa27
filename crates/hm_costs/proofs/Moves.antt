-- What a step of a transit answers at each row, and where it places its region.
use Rattle.std.proofs.Common.{◌≡◌, ℕ, zero, suc, ◌==◌, [], ◌∷◌, Bool, true, false, not, ◌&&◌, ◌||◌, cond, Option, Some, None, refl, ap, sym, ◌∙◌, arith, inl, inr, ◌⊎◌, slice_get}
use Rattle.std.proofs.lemmas.Bool.{and_from, and_parts, and_right, cases_Bool, cond-false, cond-true, false≢true, or_left, or_right, true≢false}
use Rattle.std.proofs.lemmas.Option.{none-some, same_Some}
use Rattle.hm_names.specs.Region.{Region}
use Rattle.hm_names.specs.Server.{Server}
use Rattle.hm_names.specs.declared.pid.Pid.{Pid}
use Rattle.hm_data.specs.Numbers.{region_state_number}
use Rattle.hm_data.specs.declared.act.Act.TheVariants as act_is
use Rattle.hm_data.specs.declared.answer.Answer.{Answer}
use Rattle.hm_data.specs.declared.answer.Answer.TheVariants as answer_is
use Rattle.hm_data.specs.declared.answer.Cause.{Cause}
use Rattle.hm_data.specs.declared.answer.Cause.TheVariants as cause_is
use Rattle.hm_data.specs.declared.args.Args.{Args}
use Rattle.hm_data.specs.declared.args.Args.TheVariants as args_are
use Rattle.hm_data.specs.declared.args.Child.TheVariants as child_is
use Rattle.hm_data.specs.declared.call.Told.{Told}
use Rattle.hm_data.specs.declared.call.Told.TheVariants as told_is
use Rattle.hm_data.specs.declared.catalog.CatKey.TheVariants as key_is
use Rattle.hm_data.specs.declared.entry.Entry.TheVariants as entry_is
use Rattle.hm_data.specs.declared.place.Goal.{Goal}
use Rattle.hm_data.specs.declared.place.Goal.TheVariants as goal_is
use Rattle.hm_data.specs.declared.place.Place.{Place}
use Rattle.hm_data.specs.declared.place.RegionState.TheVariants as place_is
use Rattle.hm_data.specs.declared.request.Request.TheVariants as request_is
use Rattle.hm_data.specs.declared.sheet.Row.{Row}
use Rattle.hm_data.specs.declared.step.StepIn.{StepIn}
use Rattle.hm_data.specs.declared.step.StepOut.{StepOut}
use Rattle.hm_model.specs.Acts.{act_answer}
use Rattle.hm_model.specs.Answers.{is_aborted, row_after, row_of}
use Rattle.hm_model.specs.Catalog.{row_at}
use Rattle.hm_model.specs.Checks.{region_ready}
use Rattle.hm_model.specs.Evaluation.{is_cut_off, picks_at, row_answer, wants_server}
use Rattle.hm_model.specs.Fleet.{is_live, same_server}
use Rattle.hm_model.specs.Inputs.{input, place_if, step_input}
use Rattle.hm_model.specs.Journal.{Past}
use Rattle.hm_model.specs.Kinds.{first_row_of, kind_of}
use Rattle.hm_model.specs.Lists.{exact_rows, fixed}
use Rattle.hm_model.specs.Outs.{checked, ends_with, fails, given, places, spawns}
use Rattle.hm_model.specs.Picks.{is_pick_right, is_another, is_as_wanted}
use Rattle.hm_model.specs.Places.{is_at, is_the_server, place_of, placed_by, region_if}
use Rattle.hm_model.specs.Reports.{is_the_region}
use Rattle.hm_model.specs.Rules.{IsLegal}
use Rattle.hm_model.specs.TransitActs.{behind_close, candidate, close_at, close_or_go, closed_or_lost, is_open, is_placed, is_state, is_told, lost_if, may_open_in, nowhere, opened_or_not, told_place}
use Rattle.hm_model.specs.Tree.{Node, node_of}
use Rattle.hm_model.specs.Verbs.{verb_in}
use Rattle.hm_model.specs.Views.{region_of}
use Rattle.hm_model.specs.Wanted.{goal_in, wanted_of}
use Rattle.hm_model.specs.Whereabouts.{moved_by}
use Rattle.hm_model.proofs.KeyTests.{same_region-refl}
use Rattle.hm_model.proofs.LegalSteps.{StepFacts}
use Rattle.hm_model.proofs.Trees.{answer_now, grown_all, step_of}
use Rattle.hm_model.proofs.StepDoes.{exact_row_is}

-- a transit is of kind 10, and works on its region
pub record IsMoving (args : Args) (region : Region) : Type 0 where
  pub region_is : region_of args ≡ Some region
  pub kind : kind_of args ≡ 10
  pub uncalled : verb_in args ≡ None

-- so it is with each transit
pub is_moving : (args : Args) (region : Region) → moved_by args ≡ Some region → IsMoving args region
is_moving (args_are.Root (request_is.Move own to) first) region m = record { region_is = m; kind = refl; uncalled = refl }
is_moving (args_are.Transit own goal to) region m = record { region_is = m; kind = refl; uncalled = refl }
is_moving (args_are.Root request first) region m = absurd (none-some region m)
is_moving args region m = absurd (none-some region m)

module _ (pid : Pid) (pick : Option Server) (out : StepOut) (J : Past) (legal : IsLegal (entry_is.Step pid pick out ∷ J)) (me : Node) (is_me : node_of J pid.0 ≡ Some me) (region : Region) (moved : moved_by me.args ≡ Some region) where
  pub moving : IsMoving me.args region
  moving = is_moving me.args region moved

  step : StepFacts J pid.0 pick out
  step = step_of pid pick out J (grown_all J legal.0) legal

  step_me : step.node ≡ me
  step_me = same_Some step.node me (sym step.node_is ∙ is_me)

  abbrev pub seen : StepIn
  seen = step_input J pid.0 me pick

  place_seen : seen.place ≡ Some (place_of J region)
  place_seen = ap (place_if J) moved

  on_region : (next : ℕ) (act : Region → StepOut) → given (region_of me.args) next act ≡ act region
  on_region next act = ap (λ o. given o next act) moving.region_is

  -- the cause against a move
  abbrev pub against : Option Cause
  against = region_ready (row_at seen.rows (key_is.Table region.table)) (row_at seen.rows (key_is.Region region))

  -- what is answered at the row, where nothing cuts the step off
  abbrev pub Says : ℕ → Type 0
  Says zero = out ≡ candidate 1 (may_open_in seen.rows region) (place_of J region) seen.fenced pick
  Says (suc zero) = out ≡ given (place_of J region).server 2 (λ server. spawns 2 (child_is.One (args_are.AssignCall region server) ∷ []))
  Says (suc (suc zero)) = out ≡ opened_or_not 0 (place_of J region).server (is_told told_is.Opened seen.ends)
  Says (suc (suc (suc zero))) = out ≡ close_or_go 4 (goal_in me.args) region (place_of J region) (is_open (place_of J region) seen.fenced)
  Says (suc (suc (suc (suc zero)))) = out ≡ places (behind_close (goal_in me.args) told_is.Closed) (Some (nowhere (closed_or_lost (is_told told_is.Closed seen.ends))))
  Says (suc (suc (suc (suc (suc zero))))) = out ≡ checked 3 against
  Says (suc (suc (suc (suc (suc (suc n)))))) = ⊥

  row_found : slice_get (exact_rows 10) (row_of J pid.0 me) ≡ Some step.row
  row_found = ap (λ (n : Node). slice_get (exact_rows 10) (row_of J pid.0 n)) (sym step_me) ∙ exact_row_is J pid.0 pick out step 10 (ap (λ (n : Node). kind_of n.args) step_me ∙ moving.kind) _ _ refl

  out_seen : out ≡ row_answer step.row seen
  out_seen = step.out_is ∙ ap (λ n. row_answer step.row (step_input J pid.0 n pick)) step_me

  -- it is cut off, or answers by its act
  said : (row : Row) → step.row ≡ row → ((out ≡ fails cause_is.Aborted) × (is_aborted J pid.0 ≡ true)) ⊎ (out ≡ act_answer row.act row.next seen)
  said row same = elim (cases_Bool (is_cut_off row seen)) [
    | inl cut ↦ inl (out_seen ∙ ap (λ w. row_answer w seen) same ∙ cond-true (is_cut_off row seen) (fails cause_is.Aborted) (act_answer row.act row.next seen) cut, (and_parts (is_aborted J pid.0) (not row.after) cut).0)
    | inr on ↦ inr (out_seen ∙ ap (λ w. row_answer w seen) same ∙ cond-false (is_cut_off row seen) (fails cause_is.Aborted) (act_answer row.act row.next seen) on)
  ]

  by_row : (n : ℕ) → slice_get (exact_rows 10) n ≡ Some step.row → ((out ≡ fails cause_is.Aborted) × (is_aborted J pid.0 ≡ true)) ⊎ Says n
  by_row zero there = elim (said (fixed act_is.GetAssignCandidate 1 true) (sym (same_Some _ step.row there))) [
    | inl cut ↦ inl cut
    | inr is ↦ inr (is ∙ on_region 1 (λ region. candidate 1 (may_open_in seen.rows region) (told_place seen.place) seen.fenced pick) ∙ ap (λ o. candidate 1 (may_open_in seen.rows region) (told_place o) seen.fenced pick) place_seen)
  ]
  by_row (suc zero) there = elim (said (fixed act_is.Open 2 true) (sym (same_Some _ step.row there))) [
    | inl cut ↦ inl cut
    | inr is ↦ inr (is ∙ on_region 2 (λ region. given ((told_place seen.place).server) 2 (λ server. spawns 2 (child_is.One (args_are.AssignCall region server) ∷ []))) ∙ ap (λ o. given ((told_place o).server) 2 (λ server. spawns 2 (child_is.One (args_are.AssignCall region server) ∷ []))) place_seen)
  ]
  by_row (suc (suc zero)) there = elim (said (fixed act_is.ConfirmOpened 0 true) (sym (same_Some _ step.row there))) [
    | inl cut ↦ inl cut
    | inr is ↦ inr (is ∙ ap (λ o. opened_or_not 0 (told_place o).server (is_told told_is.Opened seen.ends)) place_seen)
  ]
  by_row (suc (suc (suc zero))) there = elim (said (fixed act_is.Close 4 true) (sym (same_Some _ step.row there))) [
    | inl cut ↦ inl cut
    | inr is ↦ inr (is ∙ on_region 4 (λ region. close_or_go 4 (goal_in me.args) region (told_place seen.place) (is_open (told_place seen.place) seen.fenced)) ∙ ap (λ o. close_or_go 4 (goal_in me.args) region (told_place o) (is_open (told_place o) seen.fenced)) place_seen)
  ]
  by_row (suc (suc (suc (suc zero)))) there = said (fixed act_is.ConfirmClosed 0 true) (sym (same_Some _ step.row there))
  by_row (suc (suc (suc (suc (suc zero))))) there = elim (said (fixed act_is.CheckMove 3 false) (sym (same_Some _ step.row there))) [
    | inl cut ↦ inl cut
    | inr is ↦ inr (is ∙ on_region 3 (λ region. checked 3 (region_ready (row_at seen.rows (key_is.Table region.table)) (row_at seen.rows (key_is.Region region)))))
  ]
  by_row (suc (suc (suc (suc (suc (suc n)))))) there = absurd (none-some step.row there)

  pub answers : (n : ℕ) → row_of J pid.0 me ≡ n → ((out ≡ fails cause_is.Aborted) × (is_aborted J pid.0 ≡ true)) ⊎ Says n
  answers n here = by_row n (ap (slice_get (exact_rows 10)) (sym here) ∙ row_found)

  pub place_now : (place : Place) → out.place ≡ Some place → place_of (entry_is.Step pid pick out ∷ J) region ≡ place
  place_now place e =
      ap (λ o. placed_by region (region_if (node_of J pid.0)) o (place_of J region)) e
      ∙ cond-true (is_the_region region (region_if (node_of J pid.0))) place (place_of J region) (ap (λ n. is_the_region region (region_if n)) is_me ∙ ap (is_the_region region) moving.region_is ∙ same_region-refl region)

  pub place_still : out.place ≡ None → place_of (entry_is.Step pid pick out ∷ J) region ≡ place_of J region
  place_still e = ap (λ o. placed_by region (region_if (node_of J pid.0)) o (place_of J region)) e

  pub row_now : (a : Answer) → out.answer ≡ a → row_of (entry_is.Step pid pick out ∷ J) pid.0 me ≡ row_after (first_row_of me.args) (Some a)
  row_now a e = ap (row_after (first_row_of me.args)) (answer_now pid pick out J ∙ ap Some e)

  -- a server that was picked is live
  pub picked_live : row_of J pid.0 me ≡ 0 → may_open_in seen.rows region ≡ true → is_open (place_of J region) seen.fenced ≡ false → (server : Server) × (pick ≡ Some server) × (is_live J server ≡ true)
  picked_live here may unopened =
      let row : step.row ≡ fixed act_is.GetAssignCandidate 1 true = same_Some step.row (fixed act_is.GetAssignCandidate 1 true) (sym row_found ∙ ap (slice_get (exact_rows 10)) here) in
      let cut : is_cut_off (fixed act_is.GetAssignCandidate 1 true) (step_input J pid.0 me None) ≡ false = and_right (is_aborted J pid.0) false refl in
      let wants : wants_server (region_of me.args) (step_input J pid.0 me None) ≡ true =
      ap (λ o. wants_server o (step_input J pid.0 me None)) moving.region_is
      ∙ and_from (may_open_in seen.rows region) (not (is_open (told_place seen.place) seen.fenced)) may (ap not (ap (λ o. is_open (told_place o) seen.fenced) place_seen ∙ unopened)) in
      let needed : picks_at (Some step.row) (step_input J pid.0 step.node None) ≡ true =
      ap (λ n. picks_at (Some step.row) (step_input J pid.0 n None)) step_me
      ∙ ap (λ w. picks_at (Some w) (step_input J pid.0 me None)) row
      ∙ and_from (not (is_cut_off (fixed act_is.GetAssignCandidate 1 true) (step_input J pid.0 me None))) (wants_server (region_of me.args) (step_input J pid.0 me None)) (ap not cut) wants in
      by pick (ap (is_pick_right J pid.0 step.node pick) (sym needed) ∙ step.right)
    where
      by : (o : Option Server) → is_pick_right J pid.0 step.node o true ≡ true → (server : Server) × (o ≡ Some server) × (is_live J server ≡ true)
      by None right = absurd (false≢true right)
      by (Some server) right =
          let at = input J pid.0 step.node None in
          (server, refl, (and_parts (is_live J server) (is_as_wanted J (wanted_of at.args) at.tries server && is_another J (told_place at.place) server) right).0)

  -- at the rows that open it the region is being opened
  abbrev pub AtOpening : Past → Type 0
  AtOpening K = (row_of K pid.0 me ≡ 1) ⊎ (row_of K pid.0 me ≡ 2) → (place_of K region).state ≡ place_is.Opening

  far_row : (a : Answer) (n : ℕ) → out.answer ≡ a → row_after (first_row_of me.args) (Some a) ≡ n → (n ≡ 1 → ⊥) → (n ≡ 2 → ⊥) → AtOpening (entry_is.Step pid pick out ∷ J)
  far_row a n e row not_one not_two h = elim h [ inl one ↦ absurd (not_one (sym row ∙ sym (row_now a e) ∙ one)) | inr two ↦ absurd (not_two (sym row ∙ sym (row_now a e) ∙ two)) ]

  stops_far : (told : Told) → out.answer ≡ answer_is.Done told → AtOpening (entry_is.Step pid pick out ∷ J)
  stops_far told e = far_row (answer_is.Done told) 255 e refl (λ e. omega (arith, e)) (λ e. omega (arith, e))

  fails_far : (c : Cause) → out.answer ≡ answer_is.Fail c → AtOpening (entry_is.Step pid pick out ∷ J)
  fails_far c e = far_row (answer_is.Fail c) 255 e refl (λ e. omega (arith, e)) (λ e. omega (arith, e))

  goes_far : (n : ℕ) → out.answer ≡ answer_is.More n → (n ≡ 1 → ⊥) → (n ≡ 2 → ⊥) → AtOpening (entry_is.Step pid pick out ∷ J)
  goes_far n e = far_row (answer_is.More n) n e refl

  behind_far : (goal : Goal) (told : Told) → out.answer ≡ behind_close goal told → AtOpening (entry_is.Step pid pick out ∷ J)
  behind_far goal_is.Unassign told e = stops_far told e
  behind_far goal told e = goes_far 0 e (λ e. omega (arith, e)) (λ e. omega (arith, e))

  pub opening_now : AtOpening J → AtOpening (entry_is.Step pid pick out ∷ J)
  opening_now before = by (row_of J pid.0 me) refl (answers (row_of J pid.0 me) refl)
    where
      at_candidate : (may opened : Bool) → out ≡ cond may (cond opened (ends_with told_is.Nothing) (places (answer_is.More 1) (Some (record { state = place_is.Opening; server = pick })))) (places (answer_is.Done told_is.Nothing) (lost_if (is_placed (place_of J region) && seen.fenced))) → AtOpening (entry_is.Step pid pick out ∷ J)
      at_candidate false opened is = stops_far told_is.Nothing (ap (λ (o : StepOut). o.answer) is)
      at_candidate true true is = stops_far told_is.Nothing (ap (λ (o : StepOut). o.answer) is)
      at_candidate true false is = λ h. ap (λ (x : Place). x.state) (place_now (record { state = place_is.Opening; server = pick }) (ap (λ (o : StepOut). o.place) is))

      by_may : (may : Bool) → out ≡ candidate 1 may (place_of J region) seen.fenced pick → AtOpening (entry_is.Step pid pick out ∷ J)
      by_may false is = at_candidate false true is
      by_may true is = at_candidate true (is_open (place_of J region) seen.fenced) is

      by_server : (server : Option Server) → row_of J pid.0 me ≡ 1 → out ≡ given server 2 (λ server. spawns 2 (child_is.One (args_are.AssignCall region server) ∷ [])) → AtOpening (entry_is.Step pid pick out ∷ J)
      by_server None here is = λ h. ap (λ (x : Place). x.state) (place_still (ap (λ (o : StepOut). o.place) is)) ∙ before (inl here)
      by_server (Some server) here is = λ h. ap (λ (x : Place). x.state) (place_still (ap (λ (o : StepOut). o.place) is)) ∙ before (inl here)

      by_told : (b : Bool) → out ≡ opened_or_not 0 (place_of J region).server b → AtOpening (entry_is.Step pid pick out ∷ J)
      by_told true is = stops_far told_is.Opened (ap (λ (o : StepOut). o.answer) is)
      by_told false is = goes_far 0 (ap (λ (o : StepOut). o.answer) is) (λ e. omega (arith, e)) (λ e. omega (arith, e))

      by_close : (b : Bool) → out ≡ close_or_go 4 (goal_in me.args) region (place_of J region) b → AtOpening (entry_is.Step pid pick out ∷ J)
      by_close false is = behind_far (goal_in me.args) told_is.Nothing (ap (λ (o : StepOut). o.answer) is)
      by_close true is = at (place_of J region).server is
        where
          at : (server : Option Server) → out ≡ given server 4 (close_at 4 region) → AtOpening (entry_is.Step pid pick out ∷ J)
          at None is = goes_far 4 (ap (λ (o : StepOut). o.answer) is) (λ e. omega (arith, e)) (λ e. omega (arith, e))
          at (Some server) is = far_row (answer_is.Wait 4) 4 (ap (λ (o : StepOut). o.answer) is) refl (λ e. omega (arith, e)) (λ e. omega (arith, e))

      by_check : (cause : Option Cause) → out ≡ checked 3 cause → AtOpening (entry_is.Step pid pick out ∷ J)
      by_check None is = goes_far 3 (ap (λ (o : StepOut). o.answer) is) (λ e. omega (arith, e)) (λ e. omega (arith, e))
      by_check (Some c) is = fails_far c (ap (λ (o : StepOut). o.answer) is)

      by : (n : ℕ) → row_of J pid.0 me ≡ n → ((out ≡ fails cause_is.Aborted) × (is_aborted J pid.0 ≡ true)) ⊎ Says n → AtOpening (entry_is.Step pid pick out ∷ J)
      by n here (inl cut) = fails_far cause_is.Aborted (ap (λ (o : StepOut). o.answer) cut.0)
      by zero here (inr is) = by_may (may_open_in seen.rows region) is
      by (suc zero) here (inr is) = by_server (place_of J region).server here is
      by (suc (suc zero)) here (inr is) = by_told (is_told told_is.Opened seen.ends) is
      by (suc (suc (suc zero))) here (inr is) = by_close (is_open (place_of J region) seen.fenced) is
      by (suc (suc (suc (suc zero)))) here (inr is) = behind_far (goal_in me.args) told_is.Closed (ap (λ (o : StepOut). o.answer) is)
      by (suc (suc (suc (suc (suc zero))))) here (inr is) = by_check against is
      by (suc (suc (suc (suc (suc (suc n)))))) here (inr is) = absurd is

  -- no region comes to a server that isn't picked, as one that isn't live
  abbrev Comes : Server → Type 0
  Comes server = is_at server (place_of (entry_is.Step pid pick out ∷ J) region) ≡ true → is_at server (place_of J region) ≡ true

  was_at : (server : Server) → out.place ≡ None → Comes server
  was_at server none at = ap (is_at server) (sym (place_still none)) ∙ at

  not_at : (server : Server) (place : Place) → out.place ≡ Some place → is_at server place ≡ false → Comes server
  not_at server place e off at = absurd (true≢false (sym at ∙ ap (is_at server) (place_now place e) ∙ off))

  placed_opening : (place : Place) → place.state ≡ place_is.Opening → is_placed place ≡ true
  placed_opening place e = or_left (is_state place_is.Opening place) (is_state place_is.Opened place || is_state place_is.Closing place) (ap (λ s. region_state_number s == region_state_number place_is.Opening) e)

  placed_opened : (place : Place) → is_state place_is.Opened place ≡ true → is_placed place ≡ true
  placed_opened place e = or_right (is_state place_is.Opening place) (is_state place_is.Opened place || is_state place_is.Closing place) (or_left (is_state place_is.Opened place) (is_state place_is.Closing place) e)

  pub comes_not : AtOpening J → (server : Server) → ((picked : Server) → pick ≡ Some picked → is_live J picked ≡ true → same_server server picked ≡ false) → Comes server
  comes_not before server other = by (row_of J pid.0 me) refl (answers (row_of J pid.0 me) refl)
    where
      by_lost : (b : Bool) → out.place ≡ lost_if b → Comes server
      by_lost false is = was_at server is
      by_lost true is = not_at server (nowhere place_is.AbnormallyClosed) is refl

      by_pick : (o : Option Server) → pick ≡ o → (picked : Server) → o ≡ Some picked → is_live J picked ≡ true → is_the_server server o ≡ false
      by_pick o e picked is live = ap (is_the_server server) is ∙ other picked (e ∙ is) live

      at_open : (opened : Bool) → is_open (place_of J region) seen.fenced ≡ opened → row_of J pid.0 me ≡ 0 → may_open_in seen.rows region ≡ true → out ≡ cond opened (ends_with told_is.Nothing) (places (answer_is.More 1) (Some (record { state = place_is.Opening; server = pick }))) → Comes server
      at_open true e here may is = was_at server (ap (λ (o : StepOut). o.place) is)
      at_open false e here may is =
          let p = picked_live here may e in
          not_at server (record { state = place_is.Opening; server = pick }) (ap (λ (o : StepOut). o.place) is) (by_pick pick refl p.0 p.1 p.2)

      by_may : (may : Bool) → may_open_in seen.rows region ≡ may → row_of J pid.0 me ≡ 0 → out ≡ candidate 1 may (place_of J region) seen.fenced pick → Comes server
      by_may false e here is = by_lost (is_placed (place_of J region) && seen.fenced) (ap (λ (o : StepOut). o.place) is)
      by_may true e here is = at_open (is_open (place_of J region) seen.fenced) refl here e is

      by_server : (o : Option Server) → out ≡ given o 2 (λ server. spawns 2 (child_is.One (args_are.AssignCall region server) ∷ [])) → Comes server
      by_server None is = was_at server (ap (λ (o : StepOut). o.place) is)
      by_server (Some other) is = was_at server (ap (λ (o : StepOut). o.place) is)

      by_told : (b : Bool) → row_of J pid.0 me ≡ 2 → out ≡ opened_or_not 0 (place_of J region).server b → Comes server
      by_told true here is = λ at. and_from (is_placed (place_of J region)) (is_the_server server (place_of J region).server) (placed_opening (place_of J region) (before (inr here))) (sym (ap (is_at server) (place_now (record { state = place_is.Opened; server = (place_of J region).server }) (ap (λ (o : StepOut). o.place) is))) ∙ at)
      by_told false here is = not_at server (record { state = place_is.FailedOpen; server = (place_of J region).server }) (ap (λ (o : StepOut). o.place) is) refl

      by_close : (b : Bool) → is_open (place_of J region) seen.fenced ≡ b → out ≡ close_or_go 4 (goal_in me.args) region (place_of J region) b → Comes server
      by_close false e is = by_lost (is_state place_is.Opened (place_of J region)) (ap (λ (o : StepOut). o.place) is)
      by_close true e is = at (place_of J region).server refl is
        where
          at : (o : Option Server) → (place_of J region).server ≡ o → out ≡ given o 4 (close_at 4 region) → Comes server
          at None k is = was_at server (ap (λ (o : StepOut). o.place) is)
          at (Some own) k is = λ there. and_from (is_placed (place_of J region)) (is_the_server server (place_of J region).server) (placed_opened (place_of J region) (and_parts (is_state place_is.Opened (place_of J region)) (not seen.fenced) e).0)
              (ap (is_the_server server) k ∙ sym (ap (is_at server) (place_now (record { state = place_is.Closing; server = Some own }) (ap (λ (o : StepOut). o.place) is))) ∙ there)

      by_check : (cause : Option Cause) → out ≡ checked 3 cause → Comes server
      by_check None is = was_at server (ap (λ (o : StepOut). o.place) is)
      by_check (Some c) is = was_at server (ap (λ (o : StepOut). o.place) is)

      by : (n : ℕ) → row_of J pid.0 me ≡ n → ((out ≡ fails cause_is.Aborted) × (is_aborted J pid.0 ≡ true)) ⊎ Says n → Comes server
      by n here (inl cut) = was_at server (ap (λ (o : StepOut). o.place) cut.0)
      by zero here (inr is) = by_may (may_open_in seen.rows region) refl here is
      by (suc zero) here (inr is) = by_server (place_of J region).server is
      by (suc (suc zero)) here (inr is) = by_told (is_told told_is.Opened seen.ends) here is
      by (suc (suc (suc zero))) here (inr is) = by_close (is_open (place_of J region) seen.fenced) refl is
      by (suc (suc (suc (suc zero)))) here (inr is) = not_at server (nowhere (closed_or_lost (is_told told_is.Closed seen.ends))) (ap (λ (o : StepOut). o.place) is) (and_right (is_placed (nowhere (closed_or_lost (is_told told_is.Closed seen.ends)))) false refl)
      by (suc (suc (suc (suc (suc zero))))) here (inr is) = by_check against is
      by (suc (suc (suc (suc (suc (suc n)))))) here (inr is) = absurd is
