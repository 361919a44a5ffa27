-- A region whose Unassigns under a root have ended has no place while the root asks for it alone.
use Rattle.std.proofs.Common.{◌≡◌, ◌≢◌, ℕ, ◌<◌, List, [], ◌∷◌, Bool, true, false, not, ◌&&◌, ◌||◌, Option, Some, None, refl, ap, sym, ◌∙◌, subst, inl, inr, ◌⊎◌, slice_get, arith}
use Rattle.std.proofs.lemmas.Bool.{and_right, cases_Bool, cases_eq, cond-false, cond-true, false≢true, true≢false}
use Rattle.std.proofs.lemmas.Option.{none-some, same_Some}
use Rattle.hm_names.specs.Region.{Region}
use Rattle.hm_names.specs.Server.{Server}
use Rattle.hm_names.specs.declared.pid.Pid.{Pid}
use Rattle.hm_data.specs.declared.act.Act.{Act}
use Rattle.hm_data.specs.declared.act.Act.TheVariants as act_is
use Rattle.hm_data.specs.declared.answer.Answer.{Answer}
use Rattle.hm_data.specs.declared.answer.Answer.TheVariants as answer_is
use Rattle.hm_data.specs.declared.answer.Cause.TheVariants as cause_is
use Rattle.hm_data.specs.declared.args.Args.{Args}
use Rattle.hm_data.specs.declared.args.Args.TheVariants as args_are
use Rattle.hm_data.specs.declared.call.Told.TheVariants as told_is
use Rattle.hm_data.specs.declared.catalog.CatKey.TheVariants as key_is
use Rattle.hm_data.specs.declared.entry.Entry.TheVariants as entry_is
use Rattle.hm_data.specs.declared.place.Goal.TheVariants as goal_is
use Rattle.hm_data.specs.declared.place.Place.{Place}
use Rattle.hm_data.specs.declared.place.RegionState.{RegionState}
use Rattle.hm_data.specs.declared.place.RegionState.TheVariants as place_is
use Rattle.hm_data.specs.declared.sheet.Row.{Row}
use Rattle.hm_data.specs.declared.step.StepIn.{StepIn}
use Rattle.hm_data.specs.declared.step.StepOut.{StepOut}
use Rattle.hm_model.specs.Acts.{act_answer}
use Rattle.hm_model.specs.Answers.{is_stop, is_stopped, last_answer, row_after, row_of}
use Rattle.hm_model.specs.Evaluation.{is_cut_off}
use Rattle.hm_model.specs.Inputs.{place_if, step_input}
use Rattle.hm_model.specs.Journal.{Past}
use Rattle.hm_model.specs.Kinds.{first_row_of}
use Rattle.hm_model.specs.Lists.{exact_rows, fixed}
use Rattle.hm_model.specs.Locks.{AsksClash, IsAbove, IsIn, asks}
use Rattle.hm_model.specs.Outs.{fails, given}
use Rattle.hm_model.specs.Phase.{root_ended}
use Rattle.hm_model.specs.Places.{place_of, placed_by, region_if}
use Rattle.hm_model.specs.Reads.{covers, reads}
use Rattle.hm_model.specs.Reports.{is_the_region, last_call}
use Rattle.hm_model.specs.Rules.{IsLegal}
use Rattle.hm_model.specs.TransitActs.{close_at, close_or_go, close_there, closed_or_lost, confirm_closed, is_open, is_placed, is_state, is_told, lost_if, nowhere}
use Rattle.hm_model.specs.Tree.{Node, made, node_of, root_in, root_of}
use Rattle.hm_model.specs.Views.{region_of}
use Rattle.hm_model.specs.Whereabouts.{moved_by}
use Rattle.hm_model.proofs.KeyTests.{same_region-refl}
use Rattle.hm_model.proofs.LegalSteps.{StepFacts, ready_stops}
use Rattle.hm_model.proofs.StepDoes.{Does}
use Rattle.hm_model.proofs.Free.{step_free}
use Rattle.hm_model.proofs.Taken.{clash_sym}
use Rattle.hm_model.proofs.Trees.{Grown, IsRooted, answer_now, does_of, down_rooted, grown_all, is_there, le_or_lt, node_same, old_or_new, other_answer, start_none, step_of, still_there, submit_rooted, undo_rooted}
use Rattle.hm_kinds.proofs.Covering.{rows_table}
use Rattle.hm_kinds.proofs.LockForms.{lock_law}
use Rattle.hm_model.proofs.Tops.{holds_open, TopHolds, TopIs}
use Rattle.hm_serial.proofs.Apart.{step_top}
use Rattle.hm_serial.proofs.FallAll.{All, falls_all, stack_off, step_aside, undo_holds}
use Rattle.hm_serial.proofs.Fallen.{root_of_node}
use Rattle.hm_serial.proofs.FallStep.{own_begun}
use Rattle.hm_serial.proofs.Standing.{Left, ended_left, rooted_left, step_left, step_open}
use Rattle.hm_single.specs.Calls.{MovesIn}
use Rattle.hm_single.specs.Theorem.{HeldPlacesStay}
use Rattle.hm_single.proofs.All.{kept_all}
use Rattle.hm_single.proofs.Kept.{Lasting}
use Rattle.hm_single.proofs.Placing.{giver, own_row, reads_own}
use Rattle.hm_single.proofs.Stage.{StageFor, child_of_step, moved_if, the_region, work_of, worked}
use Rattle.hm_single.proofs.Transit.{AtRest, AtRow, IsFreeRow, IsRest}

-- where an Unassign is
abbrev pub UnassignAt : Option Answer → Type 0
UnassignAt None = Unit {0}
UnassignAt (Some (answer_is.More n)) = ⊥
UnassignAt (Some (answer_is.Wait n)) = n ≡ 4
UnassignAt (Some (answer_is.Await n)) = ⊥
UnassignAt (Some (answer_is.Done told)) = Unit {0}
UnassignAt (Some (answer_is.Fail cause)) = Unit {0}
UnassignAt (Some answer_is.Undone) = ⊥

-- what its step answers
abbrev UnassignAnswers : Answer → Type 0
UnassignAnswers (answer_is.More n) = n ≡ 4
UnassignAnswers (answer_is.Wait n) = n ≡ 4
UnassignAnswers (answer_is.Done told) = Unit {0}
UnassignAnswers (answer_is.Fail cause) = Unit {0}
UnassignAnswers answer = ⊥

-- and leaves where it ends: its region isn't open
record Shuts (place : Place) (out : StepOut) : Type 0 where
  pub answers : UnassignAnswers out.answer
  pub given : is_stop out.answer ≡ true → (here : Place) → out.place ≡ Some here → is_state place_is.Opened here ≡ false
  pub kept : is_stop out.answer ≡ true → out.place ≡ None → is_state place_is.Opened place ≡ false

lost_shut : (b : Bool) (here : Place) → lost_if b ≡ Some here → is_state place_is.Opened here ≡ false
lost_shut false here e = absurd (none-some here e)
lost_shut true here e = ap (is_state place_is.Opened) (sym (same_Some (nowhere place_is.AbnormallyClosed) here e))

lost_none : (b : Bool) → lost_if b ≡ None → b ≡ false
lost_none false e = refl
lost_none true e = absurd (none-some (nowhere place_is.AbnormallyClosed) (sym e))

closes_so : (region : Region) (place : Place) (b : Bool) → Shuts place (close_or_go 4 goal_is.Unassign region place b)
closes_so region place false = record {
  answers = tt;
  given = λ stops here e. lost_shut (is_state place_is.Opened place) here e;
  kept = λ stops e. lost_none (is_state place_is.Opened place) e;
}
closes_so region place true = by place.server
  where
    by : (o : Option Server) → Shuts place (given o 4 (close_at 4 region))
    by None = record { answers = refl; given = λ stops. absurd (false≢true stops); kept = λ stops. absurd (false≢true stops) }
    by (Some server) = record { answers = refl; given = λ stops. absurd (false≢true stops); kept = λ stops. absurd (false≢true stops) }

confirms_so : (region : Region) (place : Place) (told : Bool) → Shuts place (Rattle.hm_model.specs.Outs.places (answer_is.Done told_is.Closed) (Some (nowhere (closed_or_lost told))))
confirms_so region place told = record {
  answers = tt;
  given = λ stops here e. ap (is_state place_is.Opened) (sym (same_Some (nowhere (closed_or_lost told)) here e)) ∙ by told;
  kept = λ stops e. absurd (none-some (nowhere (closed_or_lost told)) (sym e));
}
  where
    by : (b : Bool) → is_state place_is.Opened (nowhere (closed_or_lost b)) ≡ false
    by true = refl
    by false = refl

-- a place at rest that isn't open is none
rest_shut : (J : Past) (r : Region) (last : Option ℕ) (state : RegionState) (server : Option Server) → AtRest J r last state server → is_state place_is.Opened (record { state = state; server = server }) ≡ false → is_placed (record { state = state; server = server }) ≡ false
rest_shut J r last place_is.Opening server rest h = absurd rest
rest_shut J r last place_is.Closing server rest h = absurd rest
rest_shut J r last place_is.Opened server rest h = absurd (true≢false h)
rest_shut J r last state server rest h = refl

-- by its stage: what is said of an Unassign's answer
stage_answer : (J : Past) (p : ℕ) (r : Region) (place : Place) (last : Option ℕ) (answer : Answer) (q : ℕ) (made : Option Node) (other : Option Answer) → UnassignAnswers answer → AtRow J p r place last (Some answer) q made other → UnassignAt (Some answer) × (is_stop answer ≡ true → IsRest J r last place)
stage_answer J p r place last (answer_is.More n) q made other a (inl h) = absurd (free h.0)
  where
    free : IsFreeRow n → ⊥
    free (inl zero_is) = omega (arith, a, zero_is)
    free (inr (inl three_is)) = omega (arith, a, three_is)
    free (inr (inr five_is)) = omega (arith, a, five_is)
stage_answer J p r place last (answer_is.More n) q made other a (inr h) = (let one = h.0 in absurd (omega (arith, a, one)))
stage_answer J p r place last (answer_is.Wait n) q made other a h = (a, λ stops. absurd (false≢true stops))
stage_answer J p r place last (answer_is.Done told) q made other a h = (tt, λ stops. h)
stage_answer J p r place last (answer_is.Fail cause) q made other a h = (tt, λ stops. h)
stage_answer J p r place last answer q made other a h = absurd a

module _ (pid : Pid) (pick : Option Server) (out : StepOut) (J : Past) (legal : IsLegal (entry_is.Step pid pick out ∷ J)) where
  abbrev J' : Past
  J' = entry_is.Step pid pick out ∷ J

  abbrev grown : Grown J
  grown = grown_all J legal.0

  abbrev kept : Lasting J
  kept = kept_all J legal.0

  abbrev step : StepFacts J pid.0 pick out
  step = step_of pid pick out J (grown_all J legal.0) legal

  abbrev does : Does J pid.0 step.node.args (last_answer J pid.0) step.sheet.rows out
  does = does_of pid pick out J (grown_all J legal.0) step

  runs_now : is_stopped (last_answer J pid.0) ≡ false
  runs_now = ready_stops J pid.0 step.node (last_answer J pid.0) step.ready

  pub work_now : (region : Region) → moved_by step.node.args ≡ Some region → work_of J' region ≡ Some pid.0
  work_now region m = ap (λ n. worked region (moved_if n) pid.0 (work_of J region)) step.node_is ∙ cond-true (is_the_region region (moved_by step.node.args)) (Some pid.0) (work_of J region) (ap (is_the_region region) m ∙ same_region-refl region)

  pub work_same : (region : Region) → is_the_region region (moved_by step.node.args) ≡ false → work_of J' region ≡ work_of J region
  work_same region off = ap (λ n. worked region (moved_if n) pid.0 (work_of J region)) step.node_is ∙ cond-false (is_the_region region (moved_by step.node.args)) (Some pid.0) (work_of J region) off

  -- the step of an Unassign
  module _ (region : Region) (to : Option Server) (own : step.node.args ≡ args_are.Transit region goal_is.Unassign to) (at : UnassignAt (last_answer J pid.0)) where
    moves_it : moved_by step.node.args ≡ Some region
    moves_it = ap moved_by own

    row_cases : (o : Option Answer) → last_answer J pid.0 ≡ o → UnassignAt o → is_stopped o ≡ false → (row_of J pid.0 step.node ≡ 3) ⊎ (row_of J pid.0 step.node ≡ 4)
    row_cases None l u runs = inl (ap (row_after (first_row_of step.node.args)) l ∙ ap first_row_of own)
    row_cases (Some (answer_is.Wait n)) l u runs = inr (ap (row_after (first_row_of step.node.args)) l ∙ u)
    row_cases (Some (answer_is.More n)) l u runs = absurd u
    row_cases (Some (answer_is.Await n)) l u runs = absurd u
    row_cases (Some (answer_is.Done told)) l u runs = absurd (true≢false runs)
    row_cases (Some (answer_is.Fail cause)) l u runs = absurd (true≢false runs)
    row_cases (Some answer_is.Undone) l u runs = absurd u

    row_is : (n : ℕ) (expected : Row) → row_of J pid.0 step.node ≡ n → slice_get (exact_rows 10) n ≡ Some expected → step.row ≡ expected
    row_is n expected e there = same_Some step.row expected (sym (own_row pid pick out J grown kept step does region moves_it) ∙ ap (slice_get (exact_rows 10)) e ∙ there)

    out_by : (act : Act) (next : ℕ) → step.row ≡ fixed act next true → out ≡ act_answer act next (step_input J pid.0 step.node pick)
    out_by act next e =
        let at_row : StepIn = step_input J pid.0 step.node pick in
        step.out_is ∙ ap (λ row. Rattle.hm_model.specs.Evaluation.row_answer row at_row) e
        ∙ cond-false (is_cut_off (fixed act next true) at_row) (fails cause_is.Aborted) (act_answer act next at_row) (and_right at_row.aborted false refl)

    shuts : Shuts (place_of J region) out
    shuts = elim (row_cases (last_answer J pid.0) refl at runs_now) [
      | inl three ↦
          let at_row : StepIn = step_input J pid.0 step.node pick in
          let same : out ≡ close_or_go 4 goal_is.Unassign region (place_of J region) (is_open (place_of J region) at_row.fenced) =
          out_by act_is.Close 4 (row_is 3 (fixed act_is.Close 4 true) three refl) ∙ ap (λ a. close_there 4 a (place_if J (moved_by a)) at_row.fenced) own in
          subst (Shuts (place_of J region)) (sym same) (closes_so region (place_of J region) (is_open (place_of J region) at_row.fenced))
      | inr four ↦
          let at_row : StepIn = step_input J pid.0 step.node pick in
          let same : out ≡ confirm_closed (args_are.Transit region goal_is.Unassign to) at_row.ends =
          out_by act_is.ConfirmClosed 0 (row_is 4 (fixed act_is.ConfirmClosed 0 true) four refl) ∙ ap (λ a. confirm_closed a at_row.ends) own in
          subst (Shuts (place_of J region)) (sym same) (confirms_so region (place_of J region) (is_told told_is.Closed at_row.ends))
    ]

    stage_now : UnassignAt (Some out.answer) × (is_stop out.answer ≡ true → IsRest J' region (last_call J' region) (place_of J' region))
    stage_now =
        let at_work : StageFor J' region (Some pid.0) = subst (StageFor J' region) (work_now region moves_it) ((kept_all J' legal).stage region) in
        stage_answer J' pid.0 region (place_of J' region) (last_call J' region) out.answer (child_of_step J' pid.0) (node_of J' (child_of_step J' pid.0)) (last_answer J' (child_of_step J' pid.0)) shuts.answers
        (subst (λ o. AtRow J' pid.0 region (place_of J' region) (last_call J' region) o (child_of_step J' pid.0) (node_of J' (child_of_step J' pid.0)) (last_answer J' (child_of_step J' pid.0))) (answer_now pid pick out J) at_work)

    shut_now : is_stop out.answer ≡ true → is_state place_is.Opened (place_of J' region) ≡ false
    shut_now stops = ap (is_state place_is.Opened) (ap (λ n. placed_by region (region_if n) out.place (place_of J region)) step.node_is) ∙ by out.place refl
      where
        by : (o : Option Place) → out.place ≡ o → is_state place_is.Opened (placed_by region (region_of step.node.args) o (place_of J region)) ≡ false
        by None e = shuts.kept stops e
        by (Some here) e = ap (is_state place_is.Opened) (cond-true (is_the_region region (region_of step.node.args)) here (place_of J region) (ap (λ a. is_the_region region (region_of a)) own ∙ same_region-refl region)) ∙ shuts.given stops here e

    pub unplaced_now : is_stop out.answer ≡ true → is_placed (place_of J' region) ≡ false
    unplaced_now stops = rest_shut J' region (last_call J' region) (place_of J' region).state (place_of J' region).server (stage_now.1 stops) (shut_now stops)

    -- one that goes on finds its region open
    pub goes_placed : is_stop out.answer ≡ false → is_placed (place_of J region) ≡ true
    goes_placed goes = elim (row_cases (last_answer J pid.0) refl at runs_now) [
      | inl three ↦
          let at_row : StepIn = step_input J pid.0 step.node pick in
          let same : out ≡ close_or_go 4 goal_is.Unassign region (place_of J region) (is_open (place_of J region) at_row.fenced) =
          out_by act_is.Close 4 (row_is 3 (fixed act_is.Close 4 true) three refl) ∙ ap (λ a. close_there 4 a (place_if J (moved_by a)) at_row.fenced) own in
          by (is_open (place_of J region) at_row.fenced) refl (ap (λ (o : StepOut). is_stop o.answer) (sym same) ∙ goes)
      | inr four ↦
          let at_row : StepIn = step_input J pid.0 step.node pick in
          let same : out ≡ confirm_closed (args_are.Transit region goal_is.Unassign to) at_row.ends =
          out_by act_is.ConfirmClosed 0 (row_is 4 (fixed act_is.ConfirmClosed 0 true) four refl) ∙ ap (λ a. confirm_closed a at_row.ends) own in
          absurd (true≢false (ap (λ (o : StepOut). is_stop o.answer) (sym same) ∙ goes))
    ]
      where
        placed_open : (opening opened closing fenced : Bool) → (opened && not fenced) ≡ true → (opening || (opened || closing)) ≡ true
        placed_open true opened closing fenced h = refl
        placed_open false true closing fenced h = refl
        placed_open false false closing fenced h = absurd (false≢true h)

        by : (b : Bool) → is_open (place_of J region) (step_input J pid.0 step.node pick).fenced ≡ b → is_stop (close_or_go 4 goal_is.Unassign region (place_of J region) b).answer ≡ false → is_placed (place_of J region) ≡ true
        by true opens runs = placed_open (is_state place_is.Opening (place_of J region)) (is_state place_is.Opened (place_of J region)) (is_state place_is.Closing (place_of J region)) (step_input J pid.0 step.node pick).fenced opens
        by false shut runs = absurd (true≢false runs)

-- where each Unassign is
abbrev pub AllAt : Past → Type 0
AllAt J = (p : ℕ) (x : Node) (region : Region) (to : Option Server) → node_of J p ≡ Some x → x.args ≡ args_are.Transit region goal_is.Unassign to → UnassignAt (last_answer J p)

calm_at : (J J' : Past) → IsRooted J J' → Grown J → AllAt J → AllAt J'
calm_at J J' rooted grown before p x region to is own = elim (old_or_new J J' rooted grown p x is) [
  | inl old ↦ subst UnassignAt (sym (rooted.last p)) (before p x region to old own)
  | inr new ↦ subst UnassignAt (sym new.3) tt
]

pub at_all : (J : Past) → IsLegal J → AllAt J
at_all [] legal p x region to is own = absurd (none-some x is)
at_all (entry_is.Submit nonce request ∷ J) legal p x region to is own = let g = grown_all J legal.0 in calm_at J (entry_is.Submit nonce request ∷ J) (submit_rooted nonce request J g) g (at_all J legal.0) p x region to is own
at_all (entry_is.Step pid pick out ∷ J) legal p x region to is own = elim (cases_eq p pid.0) [
  | inl same ↦
      let step = step_of pid pick out J (grown_all J legal.0) legal in
      let there = still_there pid pick out J (grown_all J legal.0) step (does_of pid pick out J (grown_all J legal.0) step) pid.0 step.node step.node_is in
      let one : step.node ≡ x = same_Some step.node x (sym there ∙ ap (node_of (entry_is.Step pid pick out ∷ J)) (sym same) ∙ is) in
      let mine : step.node.args ≡ args_are.Transit region goal_is.Unassign to = ap (λ (n : Node). n.args) one ∙ own in
      subst UnassignAt (sym (ap (last_answer (entry_is.Step pid pick out ∷ J)) same ∙ answer_now pid pick out J)) (stage_now pid pick out J legal region to mine (at_all J legal.0 pid.0 step.node region to step.node_is mine)).0
  | inr differs ↦ subst UnassignAt (sym (other_answer pid pick out J p differs)) (elim (le_or_lt p (made J)) [
    | inl le ↦ at_all J legal.0 p x region to (sym (node_same pid pick out J p le) ∙ is) own
    | inr lt ↦ subst UnassignAt (sym ((grown_all J legal.0).unmade p ((grown_all J legal.0).numbered p lt))) tt
  ])
]
at_all (entry_is.Undo pid row out ∷ J) legal p x region to is own = let g = grown_all J legal.0 in calm_at J (entry_is.Undo pid row out ∷ J) (undo_rooted pid row out J g) g (at_all J legal.0) p x region to is own
at_all (entry_is.Down server ∷ J) legal p x region to is own = let g = grown_all J legal.0 in calm_at J (entry_is.Down server ∷ J) (down_rooted server J g) g (at_all J legal.0) p x region to is own
at_all (entry_is.Base part ∷ J) legal p x region to is own = absurd (none-some x is)
at_all (entry ∷ J) legal p x region to is own = at_all J legal.0 p x region to is own

-- where an Unassign that has ended worked on a region last, the region has no place
abbrev pub AllShut : Past → Type 0
AllShut J =
    (region : Region) (p : ℕ) (x : Node) (to : Option Server) → work_of J region ≡ Some p → node_of J p ≡ Some x → x.args ≡ args_are.Transit region goal_is.Unassign to
    → is_stopped (last_answer J p) ≡ true → is_placed (place_of J region) ≡ false

calm_shut : (J J' : Past) → IsRooted J J' → Grown J → ((region : Region) → work_of J' region ≡ work_of J region) → ((region : Region) → place_of J' region ≡ place_of J region) → AllShut J → AllShut J'
calm_shut J J' rooted grown works places before region p x to work is own stopped = elim (old_or_new J J' rooted grown p x is) [
  | inl old ↦ ap is_placed (places region) ∙ before region p x to (sym (works region) ∙ work) old own (ap is_stopped (sym (rooted.last p)) ∙ stopped)
  | inr new ↦ absurd (false≢true (sym (ap is_stopped new.3) ∙ stopped))
]

module _ (pid : Pid) (pick : Option Server) (out : StepOut) (J : Past) (legal : IsLegal (entry_is.Step pid pick out ∷ J)) (before : AllShut J) where
  abbrev J2 : Past
  J2 = entry_is.Step pid pick out ∷ J

  abbrev facts : StepFacts J pid.0 pick out
  facts = step_of pid pick out J (grown_all J legal.0) legal

  abbrev done : Does J pid.0 facts.node.args (last_answer J pid.0) facts.sheet.rows out
  done = does_of pid pick out J (grown_all J legal.0) facts

  abbrev kept_here : Lasting J
  kept_here = kept_all J legal.0

  -- a step of no transit of the region leaves its place
  pub place_same : (region : Region) → is_the_region region (moved_by facts.node.args) ≡ false → place_of J2 region ≡ place_of J region
  place_same region off = ap (λ n. placed_by region (region_if n) out.place (place_of J region)) facts.node_is ∙ by out.place refl
    where
      by : (o : Option Place) → out.place ≡ o → placed_by region (region_of facts.node.args) o (place_of J region) ≡ place_of J region
      by None e = refl
      by (Some here) e = elim (the_region region (region_of facts.node.args)) [
        | inl own ↦ absurd (true≢false (sym (ap (is_the_region region) (giver pid pick out J (grown_all J legal.0) kept_here facts done region here e own) ∙ same_region-refl region) ∙ off))
        | inr other ↦ cond-false (is_the_region region (region_of facts.node.args)) here (place_of J region) other
      ]

  old_node : (p : ℕ) (x : Node) → node_of J p ≡ Some x → node_of J2 p ≡ Some x
  old_node p x is = still_there pid pick out J (grown_all J legal.0) facts done p x is

  step_shut : AllShut (entry_is.Step pid pick out ∷ J)
  step_shut region p x to work is own stopped = elim (the_region region (moved_by facts.node.args)) [
    | inl m ↦
        let same : pid.0 ≡ p = same_Some pid.0 p (sym (work_now pid pick out J legal region m) ∙ work) in
        let one : facts.node ≡ x = same_Some facts.node x (sym (old_node pid.0 facts.node facts.node_is) ∙ ap (node_of J2) same ∙ is) in
        let mine : facts.node.args ≡ args_are.Transit region goal_is.Unassign to = ap (λ (n : Node). n.args) one ∙ own in
        unplaced_now pid pick out J legal region to mine (at_all J legal.0 pid.0 facts.node region to facts.node_is mine)
        (ap is_stopped (sym (answer_now pid pick out J)) ∙ ap (λ q. is_stopped (last_answer J2 q)) same ∙ stopped)
    | inr off ↦
        let was : work_of J region ≡ Some p = sym (work_same pid pick out J legal region off) ∙ work in
        let its = (kept_here.worker p region was).0 in
        let one : its.0 ≡ x = same_Some its.0 x (sym (old_node p its.0 its.1) ∙ is) in
        let differs : p ≢ pid.0 = (λ same.
        let mine : facts.node ≡ its.0 = same_Some facts.node its.0 (sym facts.node_is ∙ ap (node_of J) (sym same) ∙ its.1) in
        true≢false (sym (ap (λ (n : Node). is_the_region region (moved_by n.args)) mine ∙ ap (is_the_region region) its.2 ∙ same_region-refl region) ∙ off)) in
        ap is_placed (place_same region off) ∙ before region p x to was (its.1 ∙ ap Some one) own (ap is_stopped (sym (other_answer pid pick out J p differs)) ∙ stopped)
  ]

pub shut_all : (J : Past) → IsLegal J → AllShut J
shut_all [] legal region p x to work is own stopped = absurd (none-some x is)
shut_all (entry_is.Submit nonce request ∷ J) legal region p x to work is own stopped = let g = grown_all J legal.0 in calm_shut J (entry_is.Submit nonce request ∷ J) (submit_rooted nonce request J g) g (λ r. refl) (λ r. refl) (shut_all J legal.0) region p x to work is own stopped
shut_all (entry_is.Step pid pick out ∷ J) legal region p x to work is own stopped = step_shut pid pick out J legal (shut_all J legal.0) region p x to work is own stopped
shut_all (entry_is.Undo pid row out ∷ J) legal region p x to work is own stopped = let g = grown_all J legal.0 in calm_shut J (entry_is.Undo pid row out ∷ J) (undo_rooted pid row out J g) g (λ r. refl) (λ r. refl) (shut_all J legal.0) region p x to work is own stopped
shut_all (entry_is.Down server ∷ J) legal region p x to work is own stopped = let g = grown_all J legal.0 in calm_shut J (entry_is.Down server ∷ J) (down_rooted server J g) g (λ r. refl) (λ r. refl) (shut_all J legal.0) region p x to work is own stopped
shut_all (entry_is.Base part ∷ J) legal region p x to work is own stopped = absurd (none-some x is)
shut_all (entry ∷ J) legal region p x to work is own stopped = shut_all J legal.0 region p x to work is own stopped

-- who worked on a region last while a root asks for it alone, whose tree has worked on it: one of its tree
pub record Worked (J : Past) (root : ℕ) (region : Region) : Type 0 where
  pub begun : last_answer J root ≢ None
  pub p : ℕ
  pub node : Node
  pub work : work_of J region ≡ Some p
  pub node_is : node_of J p ≡ Some node
  pub in_tree : node.root ≡ root

abbrev pub AllWorked : Past → Type 0
AllWorked J =
    (root : ℕ) (top : Node) → TopIs J root top → root_ended J root ≡ false → (region : Region) → covers top.args (key_is.Region region) ≡ true
    → (q : ℕ) (x : Node) → MovesIn J root region q x → last_answer J q ≢ None → Worked J root region

-- a root that hasn't ended hadn't before
pub still_open : (J J' : Past) (root : ℕ) → Left J J' root → root_ended J' root ≡ false → root_ended J root ≡ false
still_open J J' root left running = elim (cases_Bool (root_ended J root)) [
  | inr off ↦ off
  | inl over ↦ absurd (true≢false (sym (ended_left J J' root left over) ∙ running))
]

-- a procedure above which a root stands is of its tree
above_root : (J : Past) → Grown J → (root : ℕ) (top : Node) → TopIs J root top → (above : List ℕ) (q : ℕ) (x : Node) → node_of J q ≡ Some x → x.above ≡ above → IsIn root above → x.root ≡ root
above_root J forest root top at [] q x is e among = absurd among
above_root J forest root top at (first ∷ rest) q x is e (inl here) =
    let up = forest.ups q x is first rest e in
    let one : up.0 ≡ top = same_Some up.0 top (sym up.1 ∙ ap (node_of J) (sym here) ∙ at.0) in
    sym up.3 ∙ ap (λ (n : Node). n.root) one ∙ forest.tops root top at.0 at.1
above_root J forest root top at (first ∷ rest) q x is e (inr later) =
    let up = forest.ups q x is first rest e in
    sym up.3 ∙ above_root J forest root top at rest first up.0 up.1 up.2 later

module _ (pid : Pid) (pick : Option Server) (out : StepOut) (J : Past) (legal : IsLegal (entry_is.Step pid pick out ∷ J)) (before : AllWorked J) where
  abbrev J3 : Past
  J3 = entry_is.Step pid pick out ∷ J

  abbrev fact : StepFacts J pid.0 pick out
  fact = step_of pid pick out J (grown_all J legal.0) legal

  abbrev acts : Does J pid.0 fact.node.args (last_answer J pid.0) fact.sheet.rows out
  acts = does_of pid pick out J (grown_all J legal.0) fact

  abbrev all : All J
  all = falls_all J legal.0

  -- a transit of the region that isn't of the root's tree doesn't step
  pub stranger : (root : ℕ) (top : Node) → TopHolds J root top → (region : Region) → covers top.args (key_is.Region region) ≡ true → moved_by fact.node.args ≡ Some region → fact.node.root ≢ root → ⊥
  stranger root top holds region c m differs =
      let not_me : pid.0 ≢ root = (λ same. differs (ap (λ (n : Node). n.root) (same_Some fact.node top (sym fact.node_is ∙ ap (node_of J) same ∙ holds.0.0)) ∙ (grown_all J legal.0).tops root top holds.0.0 holds.0.1)) in
      (step_free pid pick out J legal) root ((λ none. none-some top (sym none ∙ holds.0.0)), holds_open J root top holds, inl holds.1) (
        not_me,
        (
          (λ up. subst (IsIn pid.0) holds.0.1 (subst (IsAbove pid.0) holds.0.0 up)),
          (λ up. differs (above_root J (grown_all J legal.0) root top holds.0 fact.node.above pid.0 fact.node fact.node_is refl (subst (IsAbove root) fact.node_is up))),
          subst (λ o. AsksClash o (node_of J root)) (sym fact.node_is) (subst (AsksClash (Some fact.node)) (sym holds.0.0)
              (clash_sym (asks top.args) (asks fact.node.args) (lock_law top.args fact.node.args (all.asked root top holds.0.0) (all.asked pid.0 fact.node fact.node_is) (rows_none fact.node.args m) (key_is.Region region) c (guarded fact.node.args m)))),
        ),
      )
    where
      rows_none : (args : Args) → moved_by args ≡ Some region → rows_table args ≡ None
      rows_none (args_are.Root request first) m = refl
      rows_none (args_are.Transit own goal to) m = refl
      rows_none (args_are.AddRegions table first bounds) m = absurd (none-some region m)
      rows_none (args_are.DropRegions table ids) m = absurd (none-some region m)
      rows_none args m = absurd (none-some region m)

      guarded : (args : Args) → moved_by args ≡ Some region → Rattle.hm_model.specs.Reads.guards args (key_is.Region region) ≡ true
      guarded args m = Rattle.std.proofs.lemmas.Bool.or_right (covers args (key_is.Region region)) (reads args (key_is.Region region)) (reads_own args region m).1

  step_worked : AllWorked (entry_is.Step pid pick out ∷ J)
  step_worked root top at running region c q x moves some = elim (cases_eq q pid.0) [
    | inl mine ↦
        let one : fact.node ≡ x = same_Some fact.node x (sym (still_there pid pick out J (grown_all J legal.0) fact acts pid.0 fact.node fact.node_is) ∙ ap (node_of J3) (sym mine) ∙ moves.0) in
        let own : fact.node.root ≡ root = ap (λ (n : Node). n.root) one ∙ moves.1 in
        record {
          begun = subst (λ r. last_answer J3 r ≢ None) own (own_begun pid pick out J (grown_all J legal.0) all.falls fact acts (step_aside pid pick out J legal all));
          p = pid.0;
          node = fact.node;
          work = work_now pid pick out J legal region (ap (λ (n : Node). moved_by n.args) one ∙ moves.2);
          node_is = still_there pid pick out J (grown_all J legal.0) fact acts pid.0 fact.node fact.node_is;
          in_tree = own;
        }
    | inr differs ↦ later differs
  ]
    where
      old_top : TopIs J root top
      old_top = step_top pid pick out J fact root top at

      was_running : root_ended J root ≡ false
      was_running = elim (cases_eq root fact.node.root) [
        | inl mine ↦ ap (root_ended J) mine ∙ step_open pid pick out J (grown_all J legal.0) fact acts
        | inr other ↦ still_open J J3 root (step_left pid pick out J (grown_all J legal.0) fact acts root top old_top other) running
      ]

      later : q ≢ pid.0 → Worked (entry_is.Step pid pick out ∷ J) root region
      later differs = elim (le_or_lt q (made J)) [
        | inr lt ↦ absurd (some (other_answer pid pick out J q differs ∙ (grown_all J legal.0).unmade q ((grown_all J legal.0).numbered q lt)))
        | inl le ↦ on (before root top old_top was_running region c q x (sym (node_same pid pick out J q le) ∙ moves.0, moves.1, moves.2) (λ none. some (other_answer pid pick out J q differs ∙ none)))
      ]
        where
          on : Worked J root region → Worked (entry_is.Step pid pick out ∷ J) root region
          on w = record { begun = still_begun; p = last.0; node = last.1; work = last.2; node_is = last.3; in_tree = last.4 }
            where
              still_begun : last_answer J3 root ≢ None
              still_begun none = elim (cases_eq root pid.0) [
                | inl same ↦ none-some out.answer (sym none ∙ ap (last_answer J3) same ∙ answer_now pid pick out J)
                | inr other ↦ w.begun (sym (other_answer pid pick out J root other) ∙ none)
              ]

              last : (p : ℕ) × (node : Node) × (work_of J3 region ≡ Some p) × (node_of J3 p ≡ Some node) × (node.root ≡ root)
              last = elim (the_region region (moved_by fact.node.args)) [
                | inr off ↦ (w.p, w.node, work_same pid pick out J legal region off ∙ w.work, still_there pid pick out J (grown_all J legal.0) fact acts w.p w.node w.node_is, w.in_tree)
                | inl m ↦ (
                  pid.0,
                  fact.node,
                  work_now pid pick out J legal region m,
                  still_there pid pick out J (grown_all J legal.0) fact acts pid.0 fact.node fact.node_is,
                  elim (cases_eq fact.node.root root) [
                    | inl own ↦ own
                    | inr other ↦ absurd (stranger root top (old_top, w.begun, was_running) region c m other)
                  ],
                )
              ]

-- an entry that makes roots
calm_worked : (J J' : Past) → IsRooted J J' → Grown J → ((region : Region) → work_of J' region ≡ work_of J region)
    → ((root : ℕ) (top : Node) → TopIs J root top → root_ended J' root ≡ false → root_ended J root ≡ false) → AllWorked J → AllWorked J'
calm_worked J J' rooted grown works running before root top at open_still region c q x moves some = elim (old_or_new J J' rooted grown q x moves.0) [
  | inr new ↦ absurd (some new.3)
  | inl old ↦ elim (old_or_new J J' rooted grown root top at.0) [
    | inr new ↦ absurd (not_new old new.4)
    | inl was ↦ on was old
  ]
]
  where
    not_new : node_of J q ≡ Some x → made J < root → ⊥
    not_new old lt =
        let r = root_of_node J grown q x old in
        let le = is_there J grown root r.0 (ap (node_of J) (sym moves.1) ∙ r.1.0) in
        omega (arith, lt, le)

    on : node_of J root ≡ Some top → node_of J q ≡ Some x → Worked J' root region
    on was old =
        let w = before root top (was, at.1) (running root top (was, at.1) open_still) region c q x (old, moves.1, moves.2) (λ none. some (rooted.last q ∙ none)) in
        record {
          begun = λ none. w.begun (sym (rooted.last root) ∙ none);
          p = w.p;
          node = w.node;
          work = works region ∙ w.work;
          node_is = rooted.old w.p (is_there J grown w.p w.node w.node_is) ∙ w.node_is;
          in_tree = w.in_tree;
        }

pub undo_open : (pid : Pid) (row : ℕ) (out : StepOut) (J : Past) → IsLegal (entry_is.Undo pid row out ∷ J) → (root : ℕ) (top : Node) → TopIs J root top → root_ended (entry_is.Undo pid row out ∷ J) root ≡ false → root_ended J root ≡ false
undo_open pid row out J legal root top at running =
    let grown = grown_all J legal.0 in
    let falls = (falls_all J legal.0).falls in
    elim (cases_eq root (root_of J pid.0)) [
      | inl mine ↦ ap (root_ended J) mine ∙ (undo_holds pid row out J legal grown falls).2
      | inr other ↦ still_open J (entry_is.Undo pid row out ∷ J) root (rooted_left J (entry_is.Undo pid row out ∷ J) (undo_rooted pid row out J grown) grown root top at refl (stack_off pid row out J legal grown falls root other) refl) running
    ]

pub worked_all : (J : Past) → IsLegal J → AllWorked J
worked_all [] legal root top at running region c q x moves some = absurd (none-some x moves.0)
worked_all (entry_is.Start sheets ∷ J) legal root top at running region c q x moves some = absurd (none-some x (sym (start_none J legal.1.0.0 q) ∙ moves.0))
worked_all (entry_is.Submit nonce request ∷ J) legal root top at running region c q x moves some =
    let g = grown_all J legal.0 in
    let rooted = submit_rooted nonce request J g in
    calm_worked J (entry_is.Submit nonce request ∷ J) rooted g (λ r. refl) (λ r t is h. still_open J (entry_is.Submit nonce request ∷ J) r (rooted_left J (entry_is.Submit nonce request ∷ J) rooted g r t is refl refl refl) h) (worked_all J legal.0) root top at running region c q x moves some
worked_all (entry_is.Step pid pick out ∷ J) legal root top at running region c q x moves some = step_worked pid pick out J legal (worked_all J legal.0) root top at running region c q x moves some
worked_all (entry_is.Undo pid row out ∷ J) legal root top at running region c q x moves some =
    let g = grown_all J legal.0 in
    calm_worked J (entry_is.Undo pid row out ∷ J) (undo_rooted pid row out J g) g (λ r. refl) (undo_open pid row out J legal) (worked_all J legal.0) root top at running region c q x moves some
worked_all (entry_is.Down server ∷ J) legal root top at running region c q x moves some =
    let g = grown_all J legal.0 in
    let rooted = down_rooted server J g in
    calm_worked J (entry_is.Down server ∷ J) rooted g (λ r. refl) (λ r t is h. still_open J (entry_is.Down server ∷ J) r (rooted_left J (entry_is.Down server ∷ J) rooted g r t is refl refl refl) h) (worked_all J legal.0) root top at running region c q x moves some
worked_all (entry_is.Base part ∷ J) legal root top at running region c q x moves some = absurd (none-some x moves.0)
worked_all (entry ∷ J) legal root top at running region c q x moves some =
    let w = worked_all J legal.0 root top at running region c q x moves some in record { begun = w.begun; p = w.p; node = w.node; work = w.work; node_is = w.node_is; in_tree = w.in_tree }

pub held_stay : HeldPlacesStay
held_stay pid pick out J legal root top top_is nil begun running region c =
    let step = step_of pid pick out J (grown_all J legal.0) legal in
    elim (the_region region (moved_by step.node.args)) [
      | inr off ↦ inr (place_same pid pick out J legal (shut_all J legal.0) region off)
      | inl m ↦ elim (cases_eq step.node.root root) [
        | inl own ↦ inl (ap root_in step.node_is ∙ own)
        | inr other ↦ absurd (stranger pid pick out J legal (worked_all J legal.0) root top ((top_is, nil), begun, running) region c m other)
      ]
    ]
