-- One step of a transit, by its row, at what it sees.
use Rattle.std.proofs.Common.{◌≡◌, ◌≢◌, ℕ, List, Bool, true, false, not, ◌&&◌, ◌||◌, Option, Some, None, refl, ap, sym, ◌∙◌, subst, inl, inr, ◌⊎◌, slice_get}
use Rattle.std.proofs.lemmas.Bool.{and_from, and_right, cond-false, cond-true, not_from_false, true≢false}
use Rattle.std.proofs.lemmas.Option.{none-some, same_Some}
use Rattle.hm_names.specs.Region.{Region}
use Rattle.hm_names.specs.Server.{Server}
use Rattle.hm_data.specs.declared.act.Act.TheVariants as act_is
use Rattle.hm_data.specs.declared.answer.Answer.{Answer}
use Rattle.hm_data.specs.declared.answer.Answer.TheVariants as answer_is
use Rattle.hm_data.specs.declared.answer.Cause.TheVariants as cause_is
use Rattle.hm_data.specs.declared.args.Args.{Args}
use Rattle.hm_data.specs.declared.args.Args.TheVariants as args_are
use Rattle.hm_data.specs.declared.call.Told.{Told}
use Rattle.hm_data.specs.declared.call.Told.TheVariants as told_is
use Rattle.hm_data.specs.declared.catalog.CatKey.TheVariants as key_is
use Rattle.hm_data.specs.declared.place.Goal.{Goal}
use Rattle.hm_data.specs.declared.place.Goal.TheVariants as goal_is
use Rattle.hm_data.specs.declared.request.Request.TheVariants as request_is
use Rattle.hm_data.specs.declared.sheet.Row.{Row}
use Rattle.hm_data.specs.declared.step.StepIn.{StepIn}
use Rattle.hm_data.specs.declared.step.StepOut.{StepOut}
use Rattle.hm_model.specs.Acts.{act_answer}
use Rattle.hm_model.specs.Answers.{is_stopped, last_answer, report_of, row_after, row_of}
use Rattle.hm_model.specs.Catalog.{row_at}
use Rattle.hm_model.specs.Checks.{region_ready}
use Rattle.hm_model.specs.Evaluation.{is_cut_off, picks_at, row_answer}
use Rattle.hm_model.specs.Inputs.{rows_read}
use Rattle.hm_model.specs.Journal.{Past}
use Rattle.hm_model.specs.Kinds.{first_row_of, kind_of}
use Rattle.hm_model.specs.Lists.{exact_rows, fixed}
use Rattle.hm_model.specs.Picks.{is_pick_right}
use Rattle.hm_model.specs.Places.{place_of}
use Rattle.hm_model.specs.Inputs.{ends_of, fenced_if, step_input}
use Rattle.hm_model.specs.Outs.{fails}
use Rattle.hm_model.specs.TransitActs.{is_open, is_told, may_open_in}
use Rattle.hm_model.specs.Tree.{Node}
use Rattle.hm_model.specs.Whereabouts.{moved_by}
use Rattle.hm_single.specs.Calls.{IsOpenedBy, IsVoid}
use Rattle.hm_model.proofs.CallSteps.{node_at}
use Rattle.hm_single.proofs.Transit.{AtRow, CallIs, Calls, IsFreeRow, IsRest, Leaves, candidate_step, check_step, close_there_step, confirm_closed_step, confirm_opened_step, ended_with, fails_step, open_step}

row_there : (place : ℕ) (row expected : Row) (n : ℕ) → n ≡ place → slice_get (exact_rows 10) place ≡ Some expected → slice_get (exact_rows 10) n ≡ Some row → row ≡ expected
row_there place row expected n e there is = same_Some row expected (sym is ∙ ap (slice_get (exact_rows 10)) e ∙ there)

-- where a region may be opened and isn't open, a server was picked
picked : (J : Past) (p : ℕ) (node : Node) (pick : Option Server) (needed : Bool) → is_pick_right J p node pick needed ≡ true → needed ≡ true → (s : Server) × (pick ≡ Some s)
picked J p node None needed right needs = absurd (true≢false (sym right ∙ ap not needs))
picked J p node (Some server) needed right needs = (server, refl)

-- the row at which a transit begins
pub first_free : (args : Args) (r : Region) → moved_by args ≡ Some r → IsFreeRow (first_row_of args)
first_free (args_are.Root (request_is.Move region to) first) r m = inr (inr refl)
first_free (args_are.Transit region goal_is.Assign to) r m = inl refl
first_free (args_are.Transit region goal_is.Unassign to) r m = inr (inl refl)
first_free (args_are.Transit region goal_is.Move to) r m = inr (inr refl)
first_free (args_are.Root (request_is.CreateNamespace ns) first) r m = absurd (none-some r m)
first_free (args_are.Root (request_is.DropNamespace ns) first) r m = absurd (none-some r m)
first_free (args_are.Root (request_is.CreateTable table keys) first) r m = absurd (none-some r m)
first_free (args_are.Root (request_is.DeleteTable table) first) r m = absurd (none-some r m)
first_free (args_are.Root (request_is.EnableTable table) first) r m = absurd (none-some r m)
first_free (args_are.Root (request_is.DisableTable table) first) r m = absurd (none-some r m)
first_free (args_are.Root (request_is.ModifyTable table version) first) r m = absurd (none-some r m)
first_free (args_are.Root (request_is.SplitRegion region key) first) r m = absurd (none-some r m)
first_free (args_are.Root (request_is.MergeRegions regions) first) r m = absurd (none-some r m)
first_free args r m = absurd (none-some r m)

-- what a transit at work knows of the child for which it waits
pub record Child (J : Past) (p q : ℕ) (made : Option Node) (answer : Option Answer) : Type 0 where
  pub stopped : is_stopped answer ≡ true
  pub on : (told : Told) → answer ≡ Some (answer_is.Done told) → is_told told_is.Opened (ends_of J p) ≡ true → told ≡ told_is.Opened
  pub off : (told : Told) → answer ≡ Some (answer_is.Done told) → is_told told_is.Opened (ends_of J p) ≡ false → told ≢ told_is.Opened
  pub opens : (r : Region) (server : Server) → CallIs p made (args_are.AssignCall r server) → (t : Told) → report_of J q ≡ Some t → (t ≡ told_is.Opened) ⊎ (t ≡ told_is.FailedOpen)
  pub closes : (r : Region) (server : Server) → CallIs p made (args_are.CloseCall r server) → (t : Told) → report_of J q ≡ Some t → t ≡ told_is.Closed

module _ (J : Past) (p : ℕ) (pick : Option Server) (out : StepOut) (row : Row) (above : List ℕ) (root : ℕ) where
  module _ (region : Region) (goal : Goal) (to : Option Server) (first : ℕ) (last : Option ℕ)
      (at : slice_get (exact_rows 10) (row_of J p (node_at above root (args_are.Transit region goal to) first)) ≡ Some row)
      (is : out ≡ row_answer row (step_input J p (node_at above root (args_are.Transit region goal to) first) pick)) where
    late_child : (place next : ℕ) (act : Rattle.hm_data.specs.declared.act.Act.Act) → slice_get (exact_rows 10) place ≡ Some (fixed act next true) → row_of J p (node_at above root (args_are.Transit region goal to) first) ≡ place
        → out ≡ act_answer act next (step_input J p (node_at above root (args_are.Transit region goal to) first) pick)
    late_child place next act there e =
        let at_row : StepIn = step_input J p (node_at above root (args_are.Transit region goal to) first) pick in
        is ∙ ap (λ x. row_answer x at_row) (row_there place row (fixed act next true) (row_of J p (node_at above root (args_are.Transit region goal to) first)) e there at)
        ∙ cond-false (is_cut_off (fixed act next true) at_row) (fails cause_is.Aborted) (act_answer act next at_row) (and_right at_row.aborted false refl)

    leaves_child : (made : StepOut) → out ≡ made → Leaves J region last (place_of J region) made → Leaves J region last (place_of J region) out
    leaves_child made e h = subst (Leaves J region last (place_of J region)) (sym e) h

    picked_child : row_of J p (node_at above root (args_are.Transit region goal to) first) ≡ 0 → is_pick_right J p (node_at above root (args_are.Transit region goal to) first) pick (picks_at (Some row) (step_input J p (node_at above root (args_are.Transit region goal to) first) None)) ≡ true
        → may_open_in (rows_read J (args_are.Transit region goal to)) region ≡ true → is_open (place_of J region) (fenced_if J (place_of J region).server || false) ≡ false → (s : Server) × (pick ≡ Some s)
    picked_child e right may shut =
        let at_row : StepIn = step_input J p (node_at above root (args_are.Transit region goal to) first) None in
        picked J p (node_at above root (args_are.Transit region goal to) first) pick (picks_at (Some row) at_row) right
        (ap (λ x. picks_at (Some x) at_row) (row_there 0 row (fixed act_is.GetAssignCandidate 1 true) (row_of J p (node_at above root (args_are.Transit region goal to) first)) e refl at)
        ∙ and_from (not (is_cut_off (fixed act_is.GetAssignCandidate 1 true) at_row)) (may_open_in (rows_read J (args_are.Transit region goal to)) region && not (is_open (place_of J region) (fenced_if J (place_of J region).server || false)))
        (not_from_false (is_cut_off (fixed act_is.GetAssignCandidate 1 true) at_row) (and_right at_row.aborted false refl))
        (and_from (may_open_in (rows_read J (args_are.Transit region goal to)) region) (not (is_open (place_of J region) (fenced_if J (place_of J region).server || false))) may (not_from_false (is_open (place_of J region) (fenced_if J (place_of J region).server || false)) shut)))

    check_child : (b : Bool) → is_cut_off (fixed act_is.CheckMove 3 false) (step_input J p (node_at above root (args_are.Transit region goal to) first) pick) ≡ b → row_of J p (node_at above root (args_are.Transit region goal to) first) ≡ 5 → IsRest J region last (place_of J region) → Leaves J region last (place_of J region) out
    check_child true cut e rest =
        let at_row : StepIn = step_input J p (node_at above root (args_are.Transit region goal to) first) pick in
        leaves_child (fails cause_is.Aborted)
        (is ∙ ap (λ x. row_answer x at_row) (row_there 5 row (fixed act_is.CheckMove 3 false) (row_of J p (node_at above root (args_are.Transit region goal to) first)) e refl at) ∙ cond-true (is_cut_off (fixed act_is.CheckMove 3 false) at_row) (fails cause_is.Aborted) (act_answer act_is.CheckMove 3 at_row) cut)
        (fails_step J region last (place_of J region) cause_is.Aborted rest)
    check_child false cut e rest =
        let at_row : StepIn = step_input J p (node_at above root (args_are.Transit region goal to) first) pick in
        leaves_child (act_answer act_is.CheckMove 3 at_row)
        (is ∙ ap (λ x. row_answer x at_row) (row_there 5 row (fixed act_is.CheckMove 3 false) (row_of J p (node_at above root (args_are.Transit region goal to) first)) e refl at) ∙ cond-false (is_cut_off (fixed act_is.CheckMove 3 false) at_row) (fails cause_is.Aborted) (act_answer act_is.CheckMove 3 at_row) cut)
        (check_step J region last (place_of J region) (region_ready (row_at (rows_read J (args_are.Transit region goal to)) (key_is.Table region.table)) (row_at (rows_read J (args_are.Transit region goal to)) (key_is.Region region))) rest)

    free_child : (n : ℕ) → IsFreeRow n → row_of J p (node_at above root (args_are.Transit region goal to) first) ≡ n → is_pick_right J p (node_at above root (args_are.Transit region goal to) first) pick (picks_at (Some row) (step_input J p (node_at above root (args_are.Transit region goal to) first) None)) ≡ true → IsRest J region last (place_of J region) → Leaves J region last (place_of J region) out
    free_child n (inl zero_is) e right rest =
        leaves_child _ (late_child 0 1 act_is.GetAssignCandidate refl (e ∙ zero_is))
        (candidate_step J region last (place_of J region) (may_open_in (rows_read J (args_are.Transit region goal to)) region) (fenced_if J (place_of J region).server || false) pick refl rest (λ may shut. picked_child (e ∙ zero_is) right may shut))
    free_child n (inr (inl three_is)) e right rest =
        leaves_child _ (late_child 3 4 act_is.Close refl (e ∙ three_is)) (close_there_step J region last goal (place_of J region) (fenced_if J (place_of J region).server || false) refl rest)
    free_child n (inr (inr five_is)) e right rest = check_child (is_cut_off (fixed act_is.CheckMove 3 false) (step_input J p (node_at above root (args_are.Transit region goal to) first) pick)) refl (e ∙ five_is) rest

    step_child : (was : Option Answer) → last_answer J p ≡ was → is_stopped was ≡ false → (q : ℕ) (made : Option Node) (answer : Option Answer)
        → is_pick_right J p (node_at above root (args_are.Transit region goal to) first) pick (picks_at (Some row) (step_input J p (node_at above root (args_are.Transit region goal to) first) None)) ≡ true
        → ((n : ℕ) → was ≡ Some (answer_is.Wait n) → Child J p q made answer)
        → AtRow J p region (place_of J region) last was q made answer → Leaves J region last (place_of J region) out
    step_child None l runs q made answer right child h = free_child (first_row_of (args_are.Transit region goal to)) (first_free (args_are.Transit region goal to) region refl) (ap (row_after (first_row_of (args_are.Transit region goal to))) l) right h
    step_child (Some (answer_is.More n)) l runs q made answer right child (inl h) = free_child n h.0 (ap (row_after (first_row_of (args_are.Transit region goal to))) l) right h.1
    step_child (Some (answer_is.More n)) l runs q made answer right child (inr h) =
        leaves_child _ (late_child 1 2 act_is.Open refl (ap (row_after (first_row_of (args_are.Transit region goal to))) l ∙ h.0)) (open_step J region last (place_of J region) h.1 h.2 h.3)
    step_child (Some (answer_is.Wait n)) l runs q made answer right child (inl h) =
        let c = child n refl in
        let told = ended_with J region last q h.1 (IsVoid J region last) answer h.4 c.stopped in
        leaves_child _ (late_child 2 0 act_is.ConfirmOpened refl (ap (row_after (first_row_of (args_are.Transit region goal to))) l ∙ h.0))
        (confirm_opened_step J region last q h.1 told.0 (place_of J region) (is_told told_is.Opened (ends_of J p)) h.2 (λ x. c.on told.0 told.1 x) (λ x. c.off told.0 told.1 x) (c.opens region h.1 h.3) (subst (Calls J q h.1 last (IsVoid J region last)) told.1 h.4))
    step_child (Some (answer_is.Wait n)) l runs q made answer right child (inr h) =
        let c = child n refl in
        let told = ended_with J region last q h.1 (IsOpenedBy J region last h.1) answer h.4 c.stopped in
        leaves_child _ (late_child 4 0 act_is.ConfirmClosed refl (ap (row_after (first_row_of (args_are.Transit region goal to))) l ∙ h.0))
        (confirm_closed_step J region last q h.1 told.0 goal (place_of J region) (is_told told_is.Closed (ends_of J p)) (c.closes region h.1 h.3) (subst (Calls J q h.1 last (IsOpenedBy J region last h.1)) told.1 h.4))
    step_child (Some (answer_is.Await n)) l runs q made answer right child h = absurd h
    step_child (Some (answer_is.Done told)) l runs q made answer right child h = absurd (true≢false runs)
    step_child (Some (answer_is.Fail cause)) l runs q made answer right child h = absurd (true≢false runs)
    step_child (Some answer_is.Undone) l runs q made answer right child h = absurd h

  module _ (region : Region) (to : Option Server) (own first : ℕ) (last : Option ℕ)
      (at : slice_get (exact_rows 10) (row_of J p (node_at above root (args_are.Root (request_is.Move region to) own) first)) ≡ Some row)
      (is : out ≡ row_answer row (step_input J p (node_at above root (args_are.Root (request_is.Move region to) own) first) pick)) where
    late_move : (place next : ℕ) (act : Rattle.hm_data.specs.declared.act.Act.Act) → slice_get (exact_rows 10) place ≡ Some (fixed act next true) → row_of J p (node_at above root (args_are.Root (request_is.Move region to) own) first) ≡ place
        → out ≡ act_answer act next (step_input J p (node_at above root (args_are.Root (request_is.Move region to) own) first) pick)
    late_move place next act there e =
        let at_row : StepIn = step_input J p (node_at above root (args_are.Root (request_is.Move region to) own) first) pick in
        is ∙ ap (λ x. row_answer x at_row) (row_there place row (fixed act next true) (row_of J p (node_at above root (args_are.Root (request_is.Move region to) own) first)) e there at)
        ∙ cond-false (is_cut_off (fixed act next true) at_row) (fails cause_is.Aborted) (act_answer act next at_row) (and_right at_row.aborted false refl)

    leaves_move : (made : StepOut) → out ≡ made → Leaves J region last (place_of J region) made → Leaves J region last (place_of J region) out
    leaves_move made e h = subst (Leaves J region last (place_of J region)) (sym e) h

    picked_move : row_of J p (node_at above root (args_are.Root (request_is.Move region to) own) first) ≡ 0 → is_pick_right J p (node_at above root (args_are.Root (request_is.Move region to) own) first) pick (picks_at (Some row) (step_input J p (node_at above root (args_are.Root (request_is.Move region to) own) first) None)) ≡ true
        → may_open_in (rows_read J (args_are.Root (request_is.Move region to) own)) region ≡ true → is_open (place_of J region) (fenced_if J (place_of J region).server || false) ≡ false → (s : Server) × (pick ≡ Some s)
    picked_move e right may shut =
        let at_row : StepIn = step_input J p (node_at above root (args_are.Root (request_is.Move region to) own) first) None in
        picked J p (node_at above root (args_are.Root (request_is.Move region to) own) first) pick (picks_at (Some row) at_row) right
        (ap (λ x. picks_at (Some x) at_row) (row_there 0 row (fixed act_is.GetAssignCandidate 1 true) (row_of J p (node_at above root (args_are.Root (request_is.Move region to) own) first)) e refl at)
        ∙ and_from (not (is_cut_off (fixed act_is.GetAssignCandidate 1 true) at_row)) (may_open_in (rows_read J (args_are.Root (request_is.Move region to) own)) region && not (is_open (place_of J region) (fenced_if J (place_of J region).server || false)))
        (not_from_false (is_cut_off (fixed act_is.GetAssignCandidate 1 true) at_row) (and_right at_row.aborted false refl))
        (and_from (may_open_in (rows_read J (args_are.Root (request_is.Move region to) own)) region) (not (is_open (place_of J region) (fenced_if J (place_of J region).server || false))) may (not_from_false (is_open (place_of J region) (fenced_if J (place_of J region).server || false)) shut)))

    check_move : (b : Bool) → is_cut_off (fixed act_is.CheckMove 3 false) (step_input J p (node_at above root (args_are.Root (request_is.Move region to) own) first) pick) ≡ b → row_of J p (node_at above root (args_are.Root (request_is.Move region to) own) first) ≡ 5 → IsRest J region last (place_of J region) → Leaves J region last (place_of J region) out
    check_move true cut e rest =
        let at_row : StepIn = step_input J p (node_at above root (args_are.Root (request_is.Move region to) own) first) pick in
        leaves_move (fails cause_is.Aborted)
        (is ∙ ap (λ x. row_answer x at_row) (row_there 5 row (fixed act_is.CheckMove 3 false) (row_of J p (node_at above root (args_are.Root (request_is.Move region to) own) first)) e refl at) ∙ cond-true (is_cut_off (fixed act_is.CheckMove 3 false) at_row) (fails cause_is.Aborted) (act_answer act_is.CheckMove 3 at_row) cut)
        (fails_step J region last (place_of J region) cause_is.Aborted rest)
    check_move false cut e rest =
        let at_row : StepIn = step_input J p (node_at above root (args_are.Root (request_is.Move region to) own) first) pick in
        leaves_move (act_answer act_is.CheckMove 3 at_row)
        (is ∙ ap (λ x. row_answer x at_row) (row_there 5 row (fixed act_is.CheckMove 3 false) (row_of J p (node_at above root (args_are.Root (request_is.Move region to) own) first)) e refl at) ∙ cond-false (is_cut_off (fixed act_is.CheckMove 3 false) at_row) (fails cause_is.Aborted) (act_answer act_is.CheckMove 3 at_row) cut)
        (check_step J region last (place_of J region) (region_ready (row_at (rows_read J (args_are.Root (request_is.Move region to) own)) (key_is.Table region.table)) (row_at (rows_read J (args_are.Root (request_is.Move region to) own)) (key_is.Region region))) rest)

    free_move : (n : ℕ) → IsFreeRow n → row_of J p (node_at above root (args_are.Root (request_is.Move region to) own) first) ≡ n → is_pick_right J p (node_at above root (args_are.Root (request_is.Move region to) own) first) pick (picks_at (Some row) (step_input J p (node_at above root (args_are.Root (request_is.Move region to) own) first) None)) ≡ true → IsRest J region last (place_of J region) → Leaves J region last (place_of J region) out
    free_move n (inl zero_is) e right rest =
        leaves_move _ (late_move 0 1 act_is.GetAssignCandidate refl (e ∙ zero_is))
        (candidate_step J region last (place_of J region) (may_open_in (rows_read J (args_are.Root (request_is.Move region to) own)) region) (fenced_if J (place_of J region).server || false) pick refl rest (λ may shut. picked_move (e ∙ zero_is) right may shut))
    free_move n (inr (inl three_is)) e right rest =
        leaves_move _ (late_move 3 4 act_is.Close refl (e ∙ three_is)) (close_there_step J region last goal_is.Move (place_of J region) (fenced_if J (place_of J region).server || false) refl rest)
    free_move n (inr (inr five_is)) e right rest = check_move (is_cut_off (fixed act_is.CheckMove 3 false) (step_input J p (node_at above root (args_are.Root (request_is.Move region to) own) first) pick)) refl (e ∙ five_is) rest

    step_move : (was : Option Answer) → last_answer J p ≡ was → is_stopped was ≡ false → (q : ℕ) (made : Option Node) (answer : Option Answer)
        → is_pick_right J p (node_at above root (args_are.Root (request_is.Move region to) own) first) pick (picks_at (Some row) (step_input J p (node_at above root (args_are.Root (request_is.Move region to) own) first) None)) ≡ true
        → ((n : ℕ) → was ≡ Some (answer_is.Wait n) → Child J p q made answer)
        → AtRow J p region (place_of J region) last was q made answer → Leaves J region last (place_of J region) out
    step_move None l runs q made answer right child h = free_move (first_row_of (args_are.Root (request_is.Move region to) own)) (first_free (args_are.Root (request_is.Move region to) own) region refl) (ap (row_after (first_row_of (args_are.Root (request_is.Move region to) own))) l) right h
    step_move (Some (answer_is.More n)) l runs q made answer right child (inl h) = free_move n h.0 (ap (row_after (first_row_of (args_are.Root (request_is.Move region to) own))) l) right h.1
    step_move (Some (answer_is.More n)) l runs q made answer right child (inr h) =
        leaves_move _ (late_move 1 2 act_is.Open refl (ap (row_after (first_row_of (args_are.Root (request_is.Move region to) own))) l ∙ h.0)) (open_step J region last (place_of J region) h.1 h.2 h.3)
    step_move (Some (answer_is.Wait n)) l runs q made answer right child (inl h) =
        let c = child n refl in
        let told = ended_with J region last q h.1 (IsVoid J region last) answer h.4 c.stopped in
        leaves_move _ (late_move 2 0 act_is.ConfirmOpened refl (ap (row_after (first_row_of (args_are.Root (request_is.Move region to) own))) l ∙ h.0))
        (confirm_opened_step J region last q h.1 told.0 (place_of J region) (is_told told_is.Opened (ends_of J p)) h.2 (λ x. c.on told.0 told.1 x) (λ x. c.off told.0 told.1 x) (c.opens region h.1 h.3) (subst (Calls J q h.1 last (IsVoid J region last)) told.1 h.4))
    step_move (Some (answer_is.Wait n)) l runs q made answer right child (inr h) =
        let c = child n refl in
        let told = ended_with J region last q h.1 (IsOpenedBy J region last h.1) answer h.4 c.stopped in
        leaves_move _ (late_move 4 0 act_is.ConfirmClosed refl (ap (row_after (first_row_of (args_are.Root (request_is.Move region to) own))) l ∙ h.0))
        (confirm_closed_step J region last q h.1 told.0 goal_is.Move (place_of J region) (is_told told_is.Closed (ends_of J p)) (c.closes region h.1 h.3) (subst (Calls J q h.1 last (IsOpenedBy J region last h.1)) told.1 h.4))
    step_move (Some (answer_is.Await n)) l runs q made answer right child h = absurd h
    step_move (Some (answer_is.Done told)) l runs q made answer right child h = absurd (true≢false runs)
    step_move (Some (answer_is.Fail cause)) l runs q made answer right child h = absurd (true≢false runs)
    step_move (Some answer_is.Undone) l runs q made answer right child h = absurd h

-- a step of a transit
module _ (J : Past) (p : ℕ) (pick : Option Server) (out : StepOut) (row : Row) (above : List ℕ) (root first : ℕ) (r : Region) (last : Option ℕ) (was : Option Answer) (l : last_answer J p ≡ was) (runs : is_stopped was ≡ false) (q : ℕ) (made : Option Node) (answer : Option Answer) (child : (n : ℕ) → was ≡ Some (answer_is.Wait n) → Child J p q made answer) (h : AtRow J p r (place_of J r) last was q made answer) where
  pub transit_step : (args : Args) → moved_by args ≡ Some r → slice_get (exact_rows (kind_of args)) (row_of J p (node_at above root args first)) ≡ Some row → out ≡ row_answer row (step_input J p (node_at above root args first) pick)
      → is_pick_right J p (node_at above root args first) pick (picks_at (Some row) (step_input J p (node_at above root args first) None)) ≡ true → Leaves J r last (place_of J r) out
  transit_step (args_are.Transit region goal to) m at is right =
      let e : region ≡ r = same_Some region r m in
      subst (λ x. Leaves J x last (place_of J x) out) e (step_child J p pick out row above root region goal to first last at is was l runs q made answer right child (subst (λ x. AtRow J p x (place_of J x) last was q made answer) (sym e) h))
  transit_step (args_are.Root (request_is.Move region to) own) m at is right =
      let e : region ≡ r = same_Some region r m in
      subst (λ x. Leaves J x last (place_of J x) out) e (step_move J p pick out row above root region to own first last at is was l runs q made answer right child (subst (λ x. AtRow J p x (place_of J x) last was q made answer) (sym e) h))
  transit_step (args_are.Root (request_is.CreateNamespace ns) f) m at is right = absurd (none-some r m)
  transit_step (args_are.Root (request_is.DropNamespace ns) f) m at is right = absurd (none-some r m)
  transit_step (args_are.Root (request_is.CreateTable table keys) f) m at is right = absurd (none-some r m)
  transit_step (args_are.Root (request_is.DeleteTable table) f) m at is right = absurd (none-some r m)
  transit_step (args_are.Root (request_is.EnableTable table) f) m at is right = absurd (none-some r m)
  transit_step (args_are.Root (request_is.DisableTable table) f) m at is right = absurd (none-some r m)
  transit_step (args_are.Root (request_is.ModifyTable table version) f) m at is right = absurd (none-some r m)
  transit_step (args_are.Root (request_is.SplitRegion region key) f) m at is right = absurd (none-some r m)
  transit_step (args_are.Root (request_is.MergeRegions regions) f) m at is right = absurd (none-some r m)
  transit_step args m at is right = absurd (none-some r m)
