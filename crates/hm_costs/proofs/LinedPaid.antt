-- Steps of procedures whose kinds list lines are paid for.
use Rattle.std.proofs.Common.{Bool, ◌==◌, cond, ◌||◌, ◌≡◌, ℕ, ◌+◌, ◌*◌, ◌<◌, ◌≤◌, List, [], ◌∷◌, true, false, not, Option, Some, None, refl, ap, sym, ◌∙◌, subst, arith, inl, inr, ◌⊎◌, slice_get}
use Rattle.std.proofs.lemmas.Bool.{false≢true, and_left, and_parts, cases_Bool, cond-false, not-true, or_cases, or_parts, true≢false}
use Rattle.std.proofs.lemmas.Option.{none-some, same_Some}
use Rattle.hm_names.specs.Server.{Server}
use Rattle.hm_names.specs.declared.pid.Pid.{Pid}
use Rattle.hm_data.specs.declared.act.Act.{Act}
use Rattle.hm_data.specs.declared.act.Act.TheVariants as act_is
use Rattle.hm_data.specs.declared.answer.Answer.{Answer}
use Rattle.hm_data.specs.declared.answer.Answer.TheVariants as answer_is
use Rattle.hm_data.specs.declared.answer.Cause.TheVariants as cause_is
use Rattle.hm_data.specs.declared.args.Args.{Args}
use Rattle.hm_data.specs.declared.args.Args.TheVariants as args_are
use Rattle.hm_data.specs.declared.entry.Entry.TheVariants as entry_is
use Rattle.hm_data.specs.declared.place.Goal.TheVariants as goal_is
use Rattle.hm_data.specs.declared.sheet.Row.{Row}
use Rattle.hm_data.specs.declared.sheet.Sheet.{Sheet}
use Rattle.hm_data.specs.declared.step.StepIn.{StepIn}
use Rattle.hm_data.specs.declared.step.StepOut.{StepOut}
use Rattle.hm_model.specs.ActSorts.{is_check}
use Rattle.hm_model.specs.Acts.{act_answer}
use Rattle.hm_model.specs.Answers.{no_row, failing, is_aborted, is_stopped, last_answer, row_after, row_of}
use Rattle.hm_model.specs.Evaluation.{is_cut_off, row_answer}
use Rattle.hm_model.specs.Inputs.{step_input}
use Rattle.hm_model.specs.Journal.{Past}
use Rattle.hm_model.specs.Kinds.{first_row_of, kind_of}
use Rattle.hm_model.specs.Lists.{Line, exact_rows}
use Rattle.hm_model.specs.Outs.{checked, edits_rows, fails, given, on_to}
use Rattle.hm_model.specs.Catalog.{row_at}
use Rattle.hm_model.specs.Changes.{changed}
use Rattle.hm_model.specs.Checks.{table_disabled, table_enabled}
use Rattle.hm_model.specs.RowsSaid.{in_state}
use Rattle.hm_model.specs.Views.{table_of}
use Rattle.hm_data.specs.declared.call.Told.TheVariants as told_is
use Rattle.hm_data.specs.declared.answer.Cause.{Cause}
use Rattle.hm_data.specs.declared.catalog.CatKey.TheVariants as key_is
use Rattle.hm_data.specs.declared.catalog.TableState.TheVariants as state_is
use Rattle.hm_costs.proofs.RowsStay.{own_counts_stay}
use Rattle.hm_costs.proofs.At.{Counting, CountsNow, IsIdle, counts_soon, goes_at_once}
use Rattle.hm_model.specs.Rules.{IsLegal}
use Rattle.hm_model.specs.Sheets.{sheet_for, sheets_by}
use Rattle.hm_model.specs.Tree.{Node, args_in, child_of, made, node_of}
use Rattle.hm_model.specs.Verbs.{verb_in}
use Rattle.hm_model.specs.Views.{bounds_of}
use Rattle.hm_model.specs.Whereabouts.{moved_by}
use Rattle.hm_model.proofs.ExactRows.{led_row}
use Rattle.hm_model.proofs.LegalSteps.{StepFacts, ready_stops}
use Rattle.hm_model.proofs.PlainActs.{GoesTo, IsPlainOut, fine_act, is_plain, plain_act}
use Rattle.hm_model.proofs.Trees.{Grown, answer_now, grown_all, step_of}
use Rattle.hm_model.proofs.ValidSheets.{Leads, valid_end}
use Rattle.hm_costs.proofs.At.{At, Fresh, Lined, at_calls, at_lined, at_moves, left, no_checks, reading, reads_rows, start_call, start_lined, start_transit, tail_of, tail_unchecked}
use Rattle.hm_costs.proofs.Prices.{IsPaid}
use Rattle.hm_costs.proofs.Spend.{AreChildren, IsChild, act_spent, counted_at, many, price, spend}
use Rattle.hm_costs.proofs.Sums.{total}
use Rattle.hm_costs.proofs.TransitPaid.{new_unstepped}
use Rattle.hm_data.specs.declared.call.Verb.TheVariants as verb_is
use Rattle.hm_costs.proofs.Each.{each_at}

-- what an act costs that counts nothing in the rows
spend_any : (act : Act) (args : Args) (bounds : Option (List (List ℕ))) → bounds_of args ≡ bounds → reads_rows act bounds ≡ false → (n : ℕ) → spend act args n ≡ spend act args 0
spend_any act_is.OpenRegions args None e h n = absurd (true≢false h)
spend_any act_is.OpenRegions args (Some bounds) e h n = ap (λ b. 1 + 6 * many b n) e ∙ sym (ap (λ b. 1 + 6 * many b 0) e)
spend_any act_is.CloseRegions args bounds e h n = absurd (true≢false h)
spend_any act_is.DropRegions args bounds e h n = absurd (true≢false h)
spend_any act_is.Reassign args bounds e h n = absurd (true≢false h)
spend_any act args bounds e h n = refl

-- a new child may cost its price; that of a lined kind has no server to fence
pub child_at : (pid : Pid) (pick : Option Server) (out : StepOut) (J : Past) → IsLegal (entry_is.Step pid pick out ∷ J) → (me : Node) → node_of J pid.0 ≡ Some me → (q : ℕ) → made J < q → (args : Args) → IsChild me.args args → At (entry_is.Step pid pick out ∷ J) q (child_of pid.0 me args) (price args)
child_at pid pick out J legal me is_me q lt (args_are.Transit region goal_is.Assign to) is =
    let new = new_unstepped pid pick out J legal me is_me q lt in
    at_moves (entry_is.Step pid pick out ∷ J) q (child_of pid.0 me (args_are.Transit region goal_is.Assign to)) 6 region refl refl refl (start_transit (entry_is.Step pid pick out ∷ J) q (child_of pid.0 me (args_are.Transit region goal_is.Assign to)) region 0 refl new.0 (λ e. absurd (omega (arith, e))) (λ e. omega (arith, e)) (λ e. omega (arith, e)))
child_at pid pick out J legal me is_me q lt (args_are.Transit region goal_is.Unassign to) is =
    let new = new_unstepped pid pick out J legal me is_me q lt in
    at_moves (entry_is.Step pid pick out ∷ J) q (child_of pid.0 me (args_are.Transit region goal_is.Unassign to)) 5 region refl refl refl (start_transit (entry_is.Step pid pick out ∷ J) q (child_of pid.0 me (args_are.Transit region goal_is.Unassign to)) region 3 refl new.0 (λ e. absurd (omega (arith, e))) (λ e. omega (arith, e)) (λ e. omega (arith, e)))
child_at pid pick out J legal me is_me q lt (args_are.AddRegions table first bounds) is =
    let new = new_unstepped pid pick out J legal me is_me q lt in
    at_lined (entry_is.Step pid pick out ∷ J) q (child_of pid.0 me (args_are.AddRegions table first bounds)) 1 refl refl refl (λ runs. start_lined (entry_is.Step pid pick out ∷ J) legal q (child_of pid.0 me (args_are.AddRegions table first bounds)) 0 _ _ refl refl refl new.0 (inl refl) (inr refl) refl)
child_at pid pick out J legal me is_me q lt (args_are.DropRegions table ids) is =
    let new = new_unstepped pid pick out J legal me is_me q lt in
    at_lined (entry_is.Step pid pick out ∷ J) q (child_of pid.0 me (args_are.DropRegions table ids)) 1 refl refl refl (λ runs. start_lined (entry_is.Step pid pick out ∷ J) legal q (child_of pid.0 me (args_are.DropRegions table ids)) 0 _ _ refl refl refl new.0 (inl refl) (inr refl) refl)
child_at pid pick out J legal me is_me q lt (args_are.FenceCall server) is =
    let new = new_unstepped pid pick out J legal me is_me q lt in
    at_calls (entry_is.Step pid pick out ∷ J) q (child_of pid.0 me (args_are.FenceCall server)) 3 (verb_is.Fence server) refl (start_call (entry_is.Step pid pick out ∷ J) q (child_of pid.0 me (args_are.FenceCall server)) new.0 new.1 ((λ told e. absurd (none-some told (sym new.1 ∙ e))), (λ stops. absurd (false≢true (sym (ap is_stopped new.0) ∙ stops)))))
child_at pid pick out J legal me is_me q lt (args_are.LayoutCall own) is =
    let new = new_unstepped pid pick out J legal me is_me q lt in
    at_calls (entry_is.Step pid pick out ∷ J) q (child_of pid.0 me (args_are.LayoutCall own)) 3 (verb_is.Layout own) refl (start_call (entry_is.Step pid pick out ∷ J) q (child_of pid.0 me (args_are.LayoutCall own)) new.0 new.1 (λ e. cc))
child_at pid pick out J legal me is_me q lt args is = absurd is

-- a number that is counted costs at most as much
spend_within : (act : Act) (args : Args) (at : StepIn) (n : ℕ) (bounds : Option (List (List ℕ))) → bounds_of args ≡ bounds → CountsNow act (table_of at.args) at.rows n → spend act args (counted_at act at) ≤ spend act args n
spend_within act_is.OpenRegions args at n None e c = let one = ap (λ b. 1 + 6 * many b (counted_at act_is.OpenRegions at)) e in let other = ap (λ b. 1 + 6 * many b n) e in omega (arith, one, other, c)
spend_within act_is.OpenRegions args at n (Some bounds) e c = let one = ap (λ b. 1 + 6 * many b (counted_at act_is.OpenRegions at)) e in let other = ap (λ b. 1 + 6 * many b n) e in omega (arith, one, other)
spend_within act_is.CloseRegions args at n None e c = let one = ap (λ b. 1 + 5 * many b (counted_at act_is.CloseRegions at)) e in let other = ap (λ b. 1 + 5 * many b n) e in omega (arith, one, other, c)
spend_within act_is.CloseRegions args at n (Some bounds) e c = let one = ap (λ b. 1 + 5 * many b (counted_at act_is.CloseRegions at)) e in let other = ap (λ b. 1 + 5 * many b n) e in omega (arith, one, other)
spend_within act_is.DropRegions args at n bounds e c = omega (arith, c)
spend_within act_is.Reassign args at n bounds e c = absurd c
spend_within act args at n bounds e c = omega arith

once_on : (next : ℕ) → is_stopped (Some (on_to next)) ≡ false → IsIdle (Some (on_to next))
once_on next = by (next == no_row)
  where
    by : (b : Bool) → is_stopped (Some (cond b (answer_is.Done told_is.Nothing) (answer_is.More next))) ≡ false → IsIdle (Some (cond b (answer_is.Done told_is.Nothing) (answer_is.More next)))
    by true runs = absurd (true≢false runs)
    by false runs = tt

once_checked : (next : ℕ) (cause : Option Cause) → is_stopped (Some (checked next cause).answer) ≡ false → IsIdle (Some (checked next cause).answer)
once_checked next None runs = tt
once_checked next (Some cause) runs = absurd (true≢false runs)

-- an act that goes on at once, and doesn't end its procedure, goes on to the next row
once_given : {A : Type 0} (part : Option A) (next : ℕ) (act : A → StepOut) → ((x : A) → is_stopped (Some (act x).answer) ≡ false → IsIdle (Some (act x).answer)) → is_stopped (Some (given part next act).answer) ≡ false → IsIdle (Some (given part next act).answer)
once_given None next act each = once_on next
once_given (Some x) next act each = each x

at_once : (act : Act) → goes_at_once act ≡ true → (next : ℕ) (at : StepIn) (out : StepOut) → out ≡ act_answer act next at → is_stopped (Some out.answer) ≡ false → IsIdle (Some out.answer)
at_once act once next at out says runs = subst (λ (o : StepOut). IsIdle (Some o.answer)) (sym says) (by act once (ap (λ (o : StepOut). is_stopped (Some o.answer)) (sym says) ∙ runs))
  where
    by : (act : Act) → goes_at_once act ≡ true → is_stopped (Some (act_answer act next at).answer) ≡ false → IsIdle (Some (act_answer act next at).answer)
    by act_is.CheckTableDisabled once = once_given (table_of at.args) next (λ table. checked next (table_disabled (row_at at.rows (key_is.Table table)))) (λ table. once_checked next (table_disabled (row_at at.rows (key_is.Table table))))
    by act_is.CheckTableEnabled once = once_given (table_of at.args) next (λ table. checked next (table_enabled (row_at at.rows (key_is.Table table)))) (λ table. once_checked next (table_enabled (row_at at.rows (key_is.Table table))))
    by act_is.SetEnabling once = once_given (table_of at.args) next (λ table. edits_rows next (changed (row_at at.rows) (key_is.Table table) (in_state state_is.Enabling) ∷ [])) (λ table. once_on next)
    by act_is.SetDisabling once = once_given (table_of at.args) next (λ table. edits_rows next (changed (row_at at.rows) (key_is.Table table) (in_state state_is.Disabling) ∷ [])) (λ table. once_on next)
    by act once = absurd (false≢true once)

module _ (pid : Pid) (pick : Option Server) (out : StepOut) (J : Past) (legal : IsLegal (entry_is.Step pid pick out ∷ J)) (me : Node) (is_me : node_of J pid.0 ≡ Some me) (unaborted : is_aborted J pid.0 ≡ false) (budget : ℕ) (exact : exact_rows (kind_of me.args) ≡ []) (unmoved : moved_by me.args ≡ None) (uncalled : verb_in me.args ≡ None) (at : Lined J pid.0 me budget) where
  line_grown : Grown J
  line_grown = grown_all J legal.0

  line_step : StepFacts J pid.0 pick out
  line_step = step_of pid pick out J line_grown legal

  line_is_me : line_step.node ≡ me
  line_is_me = same_Some line_step.node me (sym line_step.node_is ∙ is_me)

  line_runs : is_stopped (last_answer J pid.0) ≡ false
  line_runs = ready_stops J pid.0 line_step.node (last_answer J pid.0) line_step.ready

  sheet_found : sheet_for (sheets_by J me.root) (kind_of me.args) ≡ Some line_step.sheet
  sheet_found = ap (λ (n : Node). sheet_for (sheets_by J n.root) (kind_of n.args)) (sym line_is_me) ∙ line_step.sheet_is

  row_there : slice_get line_step.sheet.rows (row_of J pid.0 me) ≡ Some line_step.row
  row_there = ap (λ (n : Node). slice_get line_step.sheet.rows (row_of J pid.0 n)) (sym line_is_me) ∙ line_step.row_is

  plain_row : is_plain line_step.row.act ≡ true
  plain_row = (led_row (kind_of me.args) line_step.sheet line_step.valid (row_of J pid.0 me) (line_grown.led pid.0 me is_me exact line_step.sheet sheet_found line_runs) line_step.row row_there).plain

  abbrev sees : StepIn
  sees = step_input J pid.0 me pick

  says : out ≡ act_answer line_step.row.act line_step.row.next sees
  says = line_step.out_is ∙ ap (λ n. row_answer line_step.row (step_input J pid.0 n pick)) line_is_me ∙ cond-false (is_cut_off line_step.row sees) (fails cause_is.Aborted) (act_answer line_step.row.act line_step.row.next sees) (and_left (is_aborted J pid.0) (not line_step.row.after) unaborted)

  plain_out : IsPlainOut line_step.row.next out
  plain_out = subst (IsPlainOut line_step.row.next) (sym says) (plain_act line_step.row.act plain_row line_step.row.next sees)

  next_row : (a : Answer) → GoesTo line_step.row.next a → is_stopped (Some a) ≡ false → row_after (first_row_of me.args) (Some a) ≡ line_step.row.next
  next_row (answer_is.Await n) goes runs = absurd goes
  next_row (answer_is.Done told) goes runs = absurd (true≢false runs)
  next_row (answer_is.Fail c) goes runs = absurd (true≢false runs)
  next_row answer_is.Undone goes runs = absurd goes
  next_row answer goes runs = goes

  -- what the line counts now is within the number
  within_count : (n : ℕ) (line : Line) (lines : List Line) → (reading me.args (line ∷ lines) ≡ false) ⊎ Counting J pid.0 me n (line ∷ lines) → spend line.act me.args (counted_at line.act sees) ≤ spend line.act me.args n
  within_count n line lines (inl off) =
      let k = or_parts (reads_rows line.act (bounds_of me.args)) (reading me.args lines) off in
      let one = spend_any line.act me.args (bounds_of me.args) refl k.0 (counted_at line.act sees) in
      let other = spend_any line.act me.args (bounds_of me.args) refl k.0 n in
      omega (arith, one, other)
  within_count n line lines (inr c) = spend_within line.act me.args sees n (bounds_of me.args) refl c.counted.0

  -- and so it stays for the lines after
  known_on : (n : ℕ) (line : Line) (lines : List Line) → (reading me.args (line ∷ lines) ≡ false) ⊎ Counting J pid.0 me n (line ∷ lines) → line_step.row.act ≡ line.act → is_stopped (last_answer (entry_is.Step pid pick out ∷ J) pid.0) ≡ false → (reading me.args lines ≡ false) ⊎ Counting (entry_is.Step pid pick out ∷ J) pid.0 me n lines
  known_on n line lines (inl off) act runs = inl (or_parts (reads_rows line.act (bounds_of me.args)) (reading me.args lines) off).1
  known_on n line lines (inr c) act runs = elim (cases_Bool (reading me.args lines)) [
    | inr off ↦ inl off
    | inl on ↦
        let p = and_parts (not (reading me.args lines) || goes_at_once line.act) (counts_soon me.args lines) c.soon in
        let once : goes_at_once line.act ≡ true = elim (or_cases (not (reading me.args lines)) (goes_at_once line.act) p.0) [ inl off ↦ absurd (false≢true (sym (ap not on) ∙ off)) | inr now ↦ now ] in
        let last = answer_now pid pick out J in
        let idle = subst IsIdle (sym last) (at_once line_step.row.act (ap goes_at_once act ∙ once) line_step.row.next sees out says (ap is_stopped (sym last) ∙ runs)) in
        inr (record { counter = c.counter; top = c.top; idle = idle; soon = p.1; counted = own_counts_stay pid pick out J me.args c.counter line_step.row.act (ap goes_at_once act ∙ once) line_step.row.next sees says n lines c.counted.1 })
  ]

  by_lines : (n : ℕ) (lines : List Line) → Leads line_step.sheet.rows (row_of J pid.0 me) lines → left me.args n lines ≤ budget → ((last_answer J pid.0 ≡ None) × (me.above ≡ [])) ⊎ (no_checks lines ≡ true) → no_checks (tail_of lines) ≡ true → (reading me.args lines ≡ false) ⊎ Counting J pid.0 me n lines → ((sheet : Sheet) → sheet_for (sheets_by J me.root) (kind_of me.args) ≡ Some sheet → sheet ≡ line_step.sheet) → IsPaid At Fresh price pid pick out J me budget
  by_lines n [] leads enough checks later known one = absurd (valid_end line_step.sheet line_step.valid line_step.row (ap (slice_get line_step.sheet.rows) (sym leads) ∙ row_there))
  by_lines n (line ∷ lines) leads enough checks later known one =
      let same : leads.0 ≡ line_step.row = same_Some leads.0 line_step.row (sym leads.1 ∙ row_there) in
      let act : line_step.row.act ≡ line.act = ap (λ (w : Row). w.act) (sym same) ∙ leads.2.0 in
      let on : Leads line_step.sheet.rows line_step.row.next lines = subst (λ (w : Row). Leads line_step.sheet.rows w.next lines) same leads.4 in
      let spent = act_spent line_step.row.act plain_row line_step.row.next sees in
      let amount : spend line_step.row.act me.args (counted_at line_step.row.act sees) ≤ spend line.act me.args n = subst (λ a. spend a me.args (counted_at a sees) ≤ spend line.act me.args n) (sym act) (within_count n line lines known) in
      let sum : total price (args_in out.children) ≡ total price (args_in (act_answer line_step.row.act line_step.row.next sees).children) = ap (λ (o : StepOut). total price (args_in o.children)) says in
      let pays = spent.pays in
      record {
        fails = λ c failed. elim checks [
          | inl first ↦ first
          | inr none ↦
              let p = and_parts (not (is_check line.act)) (no_checks lines) none in
              absurd (none-some c (sym (ap (λ (o : StepOut). failing o.answer) says ∙ fine_act line_step.row.act plain_row (ap is_check act ∙ not-true (is_check line.act) p.0) line_step.row.next sees) ∙ failed))
        ];
        rest = left me.args n lines;
        pays = omega (arith, amount, sum, pays, enough);
        own = λ fine. at_lined (entry_is.Step pid pick out ∷ J) pid.0 me (left me.args n lines) exact unmoved uncalled (λ runs. record {
          lines = lines;
          n = n;
          leads = λ sheet found.
              let here = ap (row_after (first_row_of me.args)) (answer_now pid pick out J) ∙ next_row out.answer plain_out.goes (ap is_stopped (sym (answer_now pid pick out J)) ∙ runs) in
              subst (λ (s : Sheet). Leads s.rows (row_of (entry_is.Step pid pick out ∷ J) pid.0 me) lines) (sym (one sheet found)) (subst (λ n. Leads line_step.sheet.rows n lines) (sym here) on);
          enough = omega arith;
          checks = inr later;
          later = tail_unchecked lines later;
          known = known_on n line lines known act runs;
        });
        children = λ fine i args is.
            let made_so : AreChildren me.args (args_in out.children) = subst (λ (o : StepOut). AreChildren me.args (args_in o.children)) (sym says) spent.children in
            child_at pid pick out J legal me is_me (made J + i + 1) (omega arith) args (each_at (IsChild me.args) (args_in out.children) made_so i args is);
      }

  pub lined_paid : IsPaid At Fresh price pid pick out J me budget
  lined_paid = by_lines at.n at.lines (at.leads line_step.sheet sheet_found) at.enough at.checks at.later at.known (λ sheet found. same_Some sheet line_step.sheet (sym found ∙ sheet_found))
