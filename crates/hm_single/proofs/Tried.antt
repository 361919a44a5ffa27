-- A region that is being opened, or failed to open, is held by a transit that may open it, and that counts its failures.
use Rattle.hm_data.specs.declared.place.Place.{Place}
use Rattle.hm_data.specs.declared.place.RegionState.{RegionState}
use Rattle.hm_single.proofs.All.{Rested, base_rests}
use Rattle.std.proofs.Common.{◌≡◌, ◌≢◌, ℕ, ◌≤◌, ◌==◌, ◌&&◌, not, [], ◌∷◌, true, false, Option, Some, None, refl, ap, sym, ◌∙◌, subst, inl, inr, slice_get, arith}
use Rattle.std.proofs.lemmas.Bool.{and_from, and_left, and_right, cases_Bool, cases_eq, cond-false, cond-true, eq-eqb, false≢true, ne_eqb, or_cases, or_left, or_right, true≢false}
use Rattle.std.proofs.lemmas.Option.{none-some, same_Some}
use Rattle.hm_names.specs.Region.{Region}
use Rattle.hm_names.specs.Server.{Server}
use Rattle.hm_names.specs.declared.pid.Pid.{Pid}
use Rattle.hm_data.specs.declared.act.Act.TheVariants as act_is
use Rattle.hm_data.specs.declared.answer.Answer.TheVariants as answer_is
use Rattle.hm_data.specs.declared.answer.Cause.TheVariants as cause_is
use Rattle.hm_data.specs.declared.call.Told.TheVariants as told_is
use Rattle.hm_data.specs.declared.catalog.CatKey.TheVariants as key_is
use Rattle.hm_data.specs.declared.entry.Entry.TheVariants as entry_is
use Rattle.hm_data.specs.declared.place.Place.{Place}
use Rattle.hm_data.specs.declared.place.RegionState.TheVariants as place_is
use Rattle.hm_data.specs.declared.step.StepIn.{StepIn}
use Rattle.hm_data.specs.declared.step.StepOut.{StepOut}
use Rattle.hm_model.specs.Acts.{act_answer}
use Rattle.hm_model.specs.Answers.{is_stopped, last_answer, row_after, row_of}
use Rattle.hm_model.specs.Catalog.{cat, edited}
use Rattle.hm_model.specs.Evaluation.{is_cut_off, row_answer}
use Rattle.hm_model.specs.Inputs.{place_if, step_input}
use Rattle.hm_model.specs.Journal.{Past}
use Rattle.hm_model.specs.Kinds.{first_row_of}
use Rattle.hm_model.specs.Lists.{exact_rows, fixed}
use Rattle.hm_model.specs.Outs.{ends_with, fails, given, places}
use Rattle.hm_model.specs.Places.{has_failed, one_more, place_of, placed_by, region_if, tries_of}
use Rattle.hm_model.specs.Reports.{is_the_region}
use Rattle.hm_model.specs.Rules.{IsLegal}
use Rattle.hm_model.specs.TransitActs.{candidate, is_open, is_state, may_open, may_open_in, told_place}
use Rattle.hm_model.specs.Tree.{Node, node_of}
use Rattle.hm_model.specs.Views.{region_of}
use Rattle.hm_model.specs.Whereabouts.{moved_by}
use Rattle.hm_model.proofs.ExactRows.{row_passes}
use Rattle.hm_model.proofs.Free.{step_free}
use Rattle.hm_model.proofs.KeyTests.{same_region-refl}
use Rattle.hm_model.proofs.LegalSteps.{StepFacts, ready_stops}
use Rattle.hm_model.proofs.StepDoes.{is_moving}
use Rattle.hm_model.proofs.Trees.{Grown, answer_now, grown_all, other_answer}
use Rattle.hm_single.specs.Calls.{Moves, NextIs}
use Rattle.hm_single.proofs.All.{kept_all, place_by_row}
use Rattle.hm_single.proofs.Gives.{Gives, confirm_row, gives_by}
use Rattle.hm_single.proofs.Kept.{IsGoing, Lasting, goes_from}
use Rattle.hm_single.proofs.Kin.{goes_holds, holds_goes, transits_conflict}
use Rattle.hm_single.proofs.Own.{cut_or, does, step}
use Rattle.hm_single.proofs.Placing.{may_read, own_row}
use Rattle.hm_single.proofs.Rows.{first_free}
use Rattle.hm_single.proofs.Stage.{moved_region, the_region, work_of}
use Rattle.hm_single.proofs.Steady.{may_stay}
use Rattle.hm_single.proofs.Transit.{IsFreeRow}
use Rattle.hm_single.proofs.Unassigned.{place_same, shut_all, work_now, work_same}
use Rattle.hm_single.proofs.Trying.{AllTrying, Trying, calm_trying, is_tried, more_tries, not_both, not_open}

-- a step
module _ (pid : Pid) (pick : Option Server) (out : StepOut) (J : Past) (legal : IsLegal (entry_is.Step pid pick out ∷ J)) (before : AllTrying J) where
  abbrev J' : Past
  J' = entry_is.Step pid pick out ∷ J

  abbrev its : StepFacts J pid.0 pick out
  its = step pid pick out J legal

  abbrev grown : Grown J
  grown = grown_all J legal.0

  abbrev kept : Lasting J
  kept = kept_all J legal.0

  abbrev at_row : StepIn
  at_row = step_input J pid.0 its.node pick

  -- of another region
  other_trying : (region : Region) → is_the_region region (moved_by its.node.args) ≡ false → is_tried (place_of J' region) ≡ true → Trying J' region
  other_trying region off trying =
      let same : place_of J' region ≡ place_of J region = place_same pid pick out J legal (shut_all J legal.0) region off in
      let t = before region (ap is_tried (sym same) ∙ trying) in
      let m = (kept.worker t.p region t.works).0 in
      let differs : t.p ≢ pid.0 = (λ mine.
      let one : m.0 ≡ its.node = same_Some m.0 its.node (sym m.1 ∙ ap (node_of J) mine ∙ its.node_is) in
      true≢false (sym (ap (λ (n : Node). is_the_region region (moved_by n.args)) (sym one) ∙ ap (is_the_region region) m.2 ∙ same_region-refl region) ∙ off)) in
      record {
        p = t.p;
        works = work_same pid pick out J legal region off ∙ t.works;
        goes = subst IsGoing (sym (other_answer pid pick out J t.p differs)) t.goes;
        may = may_stay (entry_is.Step pid pick out) J legal t.p region m t.goes t.may;
        tried = λ f.
            let was = t.tried (ap (is_state place_is.FailedOpen) (sym same) ∙ f) in
            (other_answer pid pick out J t.p differs ∙ was.0, subst (λ n. 1 ≤ n) (sym (cond-false ((t.p == pid.0) && has_failed out.place) (one_more (tries_of J t.p)) (tries_of J t.p) (and_left (t.p == pid.0) (has_failed out.place) (ne_eqb t.p pid.0 differs)))) was.1);
      }

  -- of the region that the step's transit moves
  module _ (region : Region) (m : moved_by its.node.args ≡ Some region) where
    mine : Moves J pid.0 region
    mine = (its.node, its.node_is, m)

    own : region_of its.node.args ≡ Some region
    own = (moved_region its.node.args region m).0

    row_here : slice_get (exact_rows 10) (row_of J pid.0 its.node) ≡ Some its.row
    row_here = own_row pid pick out J grown kept its (does pid pick out J legal) region m

    place_none : out.place ≡ None → place_of J' region ≡ place_of J region
    place_none e = ap (λ o. placed_by region (region_if (node_of J pid.0)) o (place_of J region)) e

    place_some : (here : Place) → out.place ≡ Some here → place_of J' region ≡ here
    place_some here e =
        ap (λ n. placed_by region (region_if n) out.place (place_of J region)) its.node_is
        ∙ ap (λ o. placed_by region (region_of its.node.args) o (place_of J region)) e
        ∙ cond-true (is_the_region region (region_of its.node.args)) here (place_of J region) (ap (is_the_region region) own ∙ same_region-refl region)

    seen_place : told_place at_row.place ≡ place_of J region
    seen_place = ap (λ o. told_place (place_if J o)) m

    may_now : may_open (cat J (key_is.Table region.table)) (cat J (key_is.Region region)) ≡ true → may_open (cat J' (key_is.Table region.table)) (cat J' (key_is.Region region)) ≡ true
    may_now may =
        let none = (does pid pick out J legal).editless region m in
        ap (λ l. may_open (edited l (key_is.Table region.table) (cat J (key_is.Table region.table))) (edited l (key_is.Region region) (cat J (key_is.Region region)))) none ∙ may

    works_now : work_of J' region ≡ Some pid.0
    works_now = work_now pid pick out J legal region m

    runs_now : is_stopped (last_answer J pid.0) ≡ false
    runs_now = ready_stops J pid.0 its.node (last_answer J pid.0) its.ready

    -- the transit that holds the region is the one that steps
    same_worker : (t : Trying J region) → t.p ≡ pid.0
    same_worker t = elim (cases_eq pid.0 t.p) [
      | inl same ↦ sym same
      | inr differs ↦
          let its_moves = (kept.worker t.p region t.works).0 in
          absurd (step_free pid pick out J legal t.p (goes_holds J grown kept t.p region its_moves t.goes) (transits_conflict J grown pid.0 t.p region differs mine its_moves))
    ]

    -- one that failed is tried again
    module _ (fell : is_state place_is.FailedOpen (place_of J region) ≡ true) where
      was : Trying J region
      was = before region (or_right (is_state place_is.Opening (place_of J region)) (is_state place_is.FailedOpen (place_of J region)) fell)

      last_zero : last_answer J pid.0 ≡ Some (answer_is.More 0)
      last_zero = ap (last_answer J) (sym (same_worker was)) ∙ (was.tried fell).0

      row_zero : its.row ≡ fixed act_is.GetAssignCandidate 1 true
      row_zero = same_Some its.row (fixed act_is.GetAssignCandidate 1 true) (sym row_here ∙ ap (λ o. slice_get (exact_rows 10) (row_after (first_row_of its.node.args) o)) last_zero)

      may_seen : may_open_in at_row.rows region ≡ true
      may_seen = may_read J its.node.args region m ∙ was.may

      out_zero : out ≡ places (answer_is.More 1) (Some (record { state = place_is.Opening; server = pick }))
      out_zero =
          its.out_is ∙ ap (λ row. row_answer row at_row) row_zero
          ∙ cond-false (is_cut_off (fixed act_is.GetAssignCandidate 1 true) at_row) (fails cause_is.Aborted) (act_answer act_is.GetAssignCandidate 1 at_row) (and_right at_row.aborted false refl)
          ∙ ap (λ o. given o 1 (λ r. candidate 1 (may_open_in at_row.rows r) (told_place at_row.place) at_row.fenced at_row.pick)) own
          ∙ ap (λ b. candidate 1 b (told_place at_row.place) at_row.fenced at_row.pick) may_seen
          ∙ cond-false (is_open (told_place at_row.place) at_row.fenced) (ends_with told_is.Nothing) (places (answer_is.More 1) (Some (record { state = place_is.Opening; server = pick })))
          (and_left (is_state place_is.Opened (told_place at_row.place)) (not at_row.fenced) (ap (is_state place_is.Opened) seen_place ∙ not_open (place_of J region).state (place_of J region).server fell))

      trying_again : Trying J' region
      trying_again = record {
        p = pid.0;
        works = works_now;
        goes = subst IsGoing (sym (answer_now pid pick out J ∙ ap (λ (o : StepOut). Some o.answer) out_zero)) tt;
        may = may_now was.may;
        tried = λ f. absurd (false≢true (sym (ap (is_state place_is.FailedOpen) (place_some (record { state = place_is.Opening; server = pick }) (ap (λ (o : StepOut). o.place) out_zero))) ∙ f));
      }

    -- what the step gives
    gives_now : (here : Place) → out.place ≡ Some here → Gives its.row.act its.row.next at_row region out here
    gives_now here e = elim (cut_or pid pick out J legal) [
      | inl cut ↦ absurd (none-some here (sym (ap (λ (o : StepOut). o.place) cut) ∙ e))
      | inr acts ↦
          let moving : is_moving its.row.act ≡ true = row_passes (λ row. is_moving row.act) (exact_rows 10) refl (row_of J pid.0 its.node) its.row row_here in
          subst (λ o. Gives its.row.act its.row.next at_row region o here) (sym acts) (gives_by its.row.act moving its.row.next at_row region own here (sym (ap (λ (o : StepOut). o.place) acts) ∙ e))
    ]

    -- it fails to open only now
    module _ (unfell : is_state place_is.FailedOpen (place_of J region) ≡ false) (fails_now : is_state place_is.FailedOpen (place_of J' region) ≡ true) (here : Place) (e : out.place ≡ Some here) where
      here_fell : is_state place_is.FailedOpen here ≡ true
      here_fell = ap (is_state place_is.FailedOpen) (sym (place_some here e)) ∙ fails_now

      confirms : (its.row.act ≡ act_is.ConfirmOpened) × (out.answer ≡ answer_is.More its.row.next)
      confirms = (gives_now here e).1 here_fell

      at_two : (row_of J pid.0 its.node ≡ 2) × (its.row.next ≡ 0)
      at_two = confirm_row (row_of J pid.0 its.node) its.row row_here confirms.0

      more_zero : last_answer J' pid.0 ≡ Some (answer_is.More 0)
      more_zero = answer_now pid pick out J ∙ ap Some (confirms.1 ∙ ap answer_is.More at_two.1)

      begun : last_answer J pid.0 ≢ None
      begun none = by (first_free its.node.args region m) (ap (row_after (first_row_of its.node.args)) (sym none) ∙ at_two.0)
        where
          by : IsFreeRow (first_row_of its.node.args) → first_row_of its.node.args ≡ 2 → ⊥
          by (inl a) two = omega (arith, a, two)
          by (inr (inl a)) two = omega (arith, a, two)
          by (inr (inr a)) two = omega (arith, a, two)

      opened_first : is_state place_is.Opening (place_of J region) ≡ true
      opened_first = (place_by_row J legal.0 region).0.1 (inr (pid.0, its.node, its.node_is, m, goes_holds J grown kept pid.0 region mine (goes_from (last_answer J pid.0) runs_now begun), at_two.0))

      counted : tries_of J' pid.0 ≡ one_more (tries_of J pid.0)
      counted = cond-true ((pid.0 == pid.0) && has_failed out.place) (one_more (tries_of J pid.0)) (tries_of J pid.0) (and_from (pid.0 == pid.0) (has_failed out.place) (eq-eqb pid.0 pid.0 refl) (ap has_failed e ∙ here_fell))

      failed_trying : Trying J' region
      failed_trying = record {
        p = pid.0;
        works = works_now;
        goes = subst IsGoing (sym more_zero) tt;
        may = may_now (before region (or_left (is_state place_is.Opening (place_of J region)) (is_state place_is.FailedOpen (place_of J region)) opened_first)).may;
        tried = λ f. (more_zero, subst (λ n. 1 ≤ n) (sym counted) (more_tries (tries_of J pid.0)));
      }

    failing : is_state place_is.FailedOpen (place_of J region) ≡ false → is_state place_is.FailedOpen (place_of J' region) ≡ true → Trying J' region
    failing unfell fails_now = by out.place refl
      where
        by : (o : Option Place) → out.place ≡ o → Trying J' region
        by None e = absurd (true≢false (sym fails_now ∙ ap (is_state place_is.FailedOpen) (place_none e) ∙ unfell))
        by (Some here) e = failed_trying unfell fails_now here e

    -- it is being opened
    may_before : is_state place_is.Opening (place_of J' region) ≡ true → may_open (cat J (key_is.Table region.table)) (cat J (key_is.Region region)) ≡ true
    may_before opens = by out.place refl
      where
        by : (o : Option Place) → out.place ≡ o → may_open (cat J (key_is.Table region.table)) (cat J (key_is.Region region)) ≡ true
        by None e = (before region (or_left (is_state place_is.Opening (place_of J region)) (is_state place_is.FailedOpen (place_of J region)) (ap (is_state place_is.Opening) (sym (place_none e)) ∙ opens))).may
        by (Some here) e = sym (may_read J its.node.args region m) ∙ ((gives_now here e).0 (ap (is_state place_is.Opening) (sym (place_some here e)) ∙ opens))

    opens_by : is_state place_is.Opening (place_of J' region) ≡ true → (row : ℕ) → NextIs J' region row → Trying J' region
    opens_by opens row n =
        let later = kept_all J' legal in
        let moves : Moves J' n.0 region = (n.1, n.2, n.3) in
        let going = holds_goes J' (grown_all J' legal) later n.0 region moves n.4 in
        record {
          p = n.0;
          works = later.works n.0 region moves going;
          goes = going;
          may = may_now (may_before opens);
          tried = λ f. absurd (not_both (place_of J' region).state (place_of J' region).server opens f);
        }

    own_trying : is_tried (place_of J' region) ≡ true → Trying J' region
    own_trying trying = elim (cases_Bool (is_state place_is.FailedOpen (place_of J region))) [
      | inl fell ↦ trying_again fell
      | inr unfell ↦ elim (or_cases (is_state place_is.Opening (place_of J' region)) (is_state place_is.FailedOpen (place_of J' region)) trying) [
        | inl opens ↦ elim ((place_by_row J' legal region).0.0 opens) [ inl one ↦ opens_by opens 1 one | inr two ↦ opens_by opens 2 two ]
        | inr fails_now ↦ failing unfell fails_now
      ]
    ]

  step_trying : AllTrying (entry_is.Step pid pick out ∷ J)
  step_trying region trying = elim (the_region region (moved_by its.node.args)) [
    | inl m ↦ own_trying region m trying
    | inr off ↦ other_trying region off trying
  ]

-- in a base none is
untried : (place : Place) → Rested place.state place.server → is_tried place ≡ true → ⊥
untried place rested trying = by place.state rested trying
  where
    by : (state : RegionState) → Rested state place.server → is_tried (record place { state = state }) ≡ true → ⊥
    by place_is.Opening h t = h
    by place_is.Closing h t = h
    by place_is.FailedOpen h t = h
    by state h t = false≢true t

-- so it is in every legal journal
pub trying_all : (J : Past) → IsLegal J → AllTrying J
trying_all [] legal region trying = absurd (false≢true trying)
trying_all (entry_is.Step pid pick out ∷ J) legal region trying = step_trying pid pick out J legal (trying_all J legal.0) region trying
trying_all (entry_is.Base part ∷ J) legal region trying = absurd (untried (place_of (entry_is.Base part ∷ J) region) (base_rests (entry_is.Base part ∷ J) legal refl region) trying)
trying_all (entry ∷ J) legal region trying = calm_trying entry J legal (λ r. refl) (λ r. refl) (λ p. refl) (λ p. refl) (trying_all J legal.0) region trying
