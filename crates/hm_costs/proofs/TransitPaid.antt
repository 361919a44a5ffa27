-- Steps of transits are paid for.
use Rattle.hm_model.proofs.Grown.{grown_all as made_all}
use Rattle.std.proofs.Common.{◌≡◌, ◌≢◌, ℕ, zero, suc, ◌+◌, ◌-◌, ◌<◌, ◌≤◌, List, [], ◌∷◌, ◌++◌, Bool, true, false, Option, Some, None, refl, ap, sym, ◌∙◌, subst, arith, inl, inr, ◌⊎◌, slice_get, cond, nat_lt}
use Rattle.std.specs.List.{list_any}
use Rattle.std.proofs.lemmas.Bool.{and_from, cases_eq, cond-true, eq-eqb, false≢true, lt-ltb, or_cases, or_left, or_right, true≢false}
use Rattle.std.proofs.lemmas.Option.{none-some, same_Some}
use Rattle.hm_names.specs.Region.{Region}
use Rattle.hm_names.specs.Server.{Server}
use Rattle.hm_names.specs.declared.pid.Pid.{Pid}
use Rattle.hm_data.specs.declared.answer.Answer.{Answer}
use Rattle.hm_data.specs.declared.answer.Answer.TheVariants as answer_is
use Rattle.hm_data.specs.declared.answer.Cause.{Cause}
use Rattle.hm_data.specs.declared.answer.Cause.TheVariants as cause_is
use Rattle.hm_data.specs.declared.args.Args.{Args}
use Rattle.hm_data.specs.declared.args.Args.TheVariants as args_are
use Rattle.hm_data.specs.declared.args.Child.{Child}
use Rattle.hm_data.specs.declared.args.Child.TheVariants as child_is
use Rattle.hm_data.specs.declared.call.Told.{Told}
use Rattle.hm_data.specs.declared.call.Told.TheVariants as told_is
use Rattle.hm_data.specs.declared.call.Verb.TheVariants as verb_is
use Rattle.hm_data.specs.declared.entry.Entry.TheVariants as entry_is
use Rattle.hm_data.specs.declared.place.Goal.{Goal}
use Rattle.hm_data.specs.declared.place.Goal.TheVariants as goal_is
use Rattle.hm_data.specs.declared.place.Place.{Place}
use Rattle.hm_data.specs.declared.place.RegionState.TheVariants as place_is
use Rattle.hm_data.specs.declared.step.StepOut.{StepOut}
use Rattle.hm_model.specs.Answers.{done_with, failing, is_aborted, is_stopped, last_answer, report_of, row_after, row_of}
use Rattle.hm_model.specs.Fleet.{is_live}
use Rattle.hm_model.specs.Inputs.{ends_below, is_new_child, made_at_step}
use Rattle.hm_model.specs.Journal.{Past}
use Rattle.hm_model.specs.Kinds.{first_row_of}
use Rattle.hm_model.specs.Outs.{checked, fails, given, places, spawns}
use Rattle.hm_model.specs.Phase.{child_in, end_of}
use Rattle.hm_model.specs.Places.{place_of}
use Rattle.hm_model.specs.Rules.{IsLegal}
use Rattle.hm_model.specs.TransitActs.{behind_close, candidate, close_at, close_or_go, is_open, is_told, may_open_in, opened_or_not}
use Rattle.hm_model.specs.Tree.{Node, args_in, child_of, made, node_of}
use Rattle.hm_model.specs.Verbs.{verb_in}
use Rattle.hm_model.specs.Wanted.{goal_in}
use Rattle.hm_model.specs.Whereabouts.{moved_by}
use Rattle.hm_model.proofs.LegalSteps.{ReadyBy, StepFacts, ready_stops}
use Rattle.hm_model.proofs.Trees.{Grown, answer_now, child_stopped, grown_all, is_there, node_new, other_answer, step_of, steps_now}
use Rattle.hm_costs.proofs.At.{At, Fresh, OpensAt, TransitAt, WaitsFor, at_calls, at_moves, close_due, closed_due, due_at, start_call}
use Rattle.hm_costs.proofs.Moves.{IsMoving, Says, against, answers, is_moving, picked_live, place_now, place_still, row_now as row_moved, seen}
use Rattle.hm_costs.proofs.Prices.{AllAt, IsPaid}
use Rattle.hm_costs.proofs.Spend.{price}
use Rattle.hm_costs.proofs.Sums.{total}
use Rattle.hm_data.specs.declared.call.Verb.{Verb}
use Rattle.hm_costs.proofs.At.{CallGoes}
use Rattle.hm_model.specs.Outs.{ends_with}
use Rattle.std.proofs.Common.{option_map}

any_append : {A : Type 0} (test : A → Bool) (one other : List A) → (list_any test one ≡ true) ⊎ (list_any test other ≡ true) → list_any test (one ++ other) ≡ true
any_append test [] other h = elim h [ inl one ↦ absurd (false≢true one) | inr on ↦ on ]
any_append test (x ∷ one) other h = elim h [
  | inl here ↦ elim (or_cases (test x) (list_any test one) here) [
    | inl now ↦ or_left (test x) _ now
    | inr later ↦ or_right (test x) _ (any_append test one other (inl later))
  ]
  | inr on ↦ or_right (test x) _ (any_append test one other (inr on))
]

-- what a new child ended with is told
told_child : (J : Past) (p n c : ℕ) → c < n → is_new_child J p c ≡ true → last_answer J c ≡ Some (answer_is.Done told_is.Opened) → is_told told_is.Opened (ends_below J p n) ≡ true
told_child J p zero c lt new last = absurd (omega (arith, lt))
told_child J p (suc n) c lt new last = elim (cases_eq c n) [
  | inl here ↦
      let mine : (cond (is_new_child J p n) (end_of n (done_with (last_answer J n))) []) ≡ end_of n (Some told_is.Opened) = cond-true (is_new_child J p n) _ [] (ap (is_new_child J p) (sym here) ∙ new) ∙ ap (λ o. end_of n (done_with o)) (ap (last_answer J) (sym here) ∙ last) in
      any_append _ (ends_below J p n) _ (inr (ap (is_told told_is.Opened) mine))
  | inr other ↦ any_append _ (ends_below J p n) _ (inl (told_child J p n c (omega (arith, lt, other)) new last))
]

-- a new procedure has no step and no report
pub new_unstepped : (pid : Pid) (pick : Option Server) (out : StepOut) (J : Past) → IsLegal (entry_is.Step pid pick out ∷ J) → (me : Node) → node_of J pid.0 ≡ Some me → (q : ℕ) → made J < q → (last_answer (entry_is.Step pid pick out ∷ J) q ≡ None) × (report_of (entry_is.Step pid pick out ∷ J) q ≡ None)
new_unstepped pid pick out J legal me is_me q lt =
    let g = grown_all J legal.0 in
    let few = is_there J g pid.0 me is_me in
    let none = g.numbered q lt in
    (other_answer pid pick out J q (λ e. omega (arith, lt, few, e)) ∙ g.unmade q none, (made_all J legal.0).unreported q none)

module _ (pid : Pid) (pick : Option Server) (out : StepOut) (J : Past) (legal : IsLegal (entry_is.Step pid pick out ∷ J)) (r : ℕ) (all : AllAt At Fresh price J r) (me : Node) (is_me : node_of J pid.0 ≡ Some me) (of : me.root ≡ r) (unaborted : is_aborted J pid.0 ≡ false) (budget : ℕ) (region : Region) (moved : moved_by me.args ≡ Some region) (at : TransitAt J pid.0 me region budget) where
  abbrev Paid : Type 0
  Paid = IsPaid At Fresh price pid pick out J me budget

  moving : IsMoving me.args region
  moving = is_moving me.args region moved

  move_grown : Grown J
  move_grown = grown_all J legal.0

  move_step : StepFacts J pid.0 pick out
  move_step = step_of pid pick out J move_grown legal

  move_is_me : move_step.node ≡ me
  move_is_me = same_Some move_step.node me (sym move_step.node_is ∙ is_me)

  move_runs : is_stopped (last_answer J pid.0) ≡ false
  move_runs = ready_stops J pid.0 move_step.node (last_answer J pid.0) move_step.ready

  row_now : (a : Answer) → out.answer ≡ a → row_of (entry_is.Step pid pick out ∷ J) pid.0 me ≡ row_after (first_row_of me.args) (Some a)
  row_now = row_moved pid pick out J legal me is_me region moved

  at_now : (rest : ℕ) → TransitAt (entry_is.Step pid pick out ∷ J) pid.0 me region rest → At (entry_is.Step pid pick out ∷ J) pid.0 me rest
  at_now rest is = at_moves (entry_is.Step pid pick out ∷ J) pid.0 me rest region moved moving.kind moving.uncalled is

  no_child : (children : List Child) → children ≡ [] → (i : ℕ) (args : Args) → slice_get (args_in children) i ≡ Some args → ⊥
  no_child children none i args is = none-some args (ap (λ c. slice_get (args_in c) i) (sym none) ∙ is)

  -- a step that ends the transit
  ends_paid : (told : Told) → out.answer ≡ answer_is.Done told → out.children ≡ [] → 1 ≤ budget → Paid
  ends_paid told e none some =
      let last : last_answer (entry_is.Step pid pick out ∷ J) pid.0 ≡ Some (answer_is.Done told) = answer_now pid pick out J ∙ ap Some e in
      let row = row_now (answer_is.Done told) e in
      record {
        fails = λ c failed. absurd (none-some c (sym (ap failing e) ∙ failed));
        rest = 0;
        pays = let sum = ap (λ c. total price (args_in c)) none in omega (arith, sum, some);
        own = λ fine. at_now 0 (record {
          due = λ runs. absurd (true≢false (sym (ap is_stopped last) ∙ runs));
          first = λ five. absurd (omega (arith, row, five));
          opening = λ h. elim h [ inl one ↦ absurd (omega (arith, row, one)) | inr two ↦ absurd (omega (arith, row, two)) ];
          waiting = λ two. absurd (omega (arith, row, two));
        });
        children = λ fine i args is. absurd (no_child out.children none i args is);
      }

  -- a step that goes on to another row
  on_paid : (n : ℕ) → out.answer ≡ answer_is.More n → out.children ≡ [] → (n ≡ 1 → OpensAt (entry_is.Step pid pick out ∷ J) region) → n ≢ 2 → n ≢ 5 → 1 + due_at (goal_in me.args) n ≤ budget → Paid
  on_paid n e none opens not_two not_five pays_for =
      let row = row_now (answer_is.More n) e in
      record {
        fails = λ c failed. absurd (none-some c (sym (ap failing e) ∙ failed));
        rest = due_at (goal_in me.args) n;
        pays = let sum = ap (λ c. total price (args_in c)) none in omega (arith, sum, pays_for);
        own = λ fine. at_now (due_at (goal_in me.args) n) (record {
          due = λ runs. let same = ap (due_at (goal_in me.args)) row in omega (arith, same);
          first = λ five. absurd (not_five (sym row ∙ five));
          opening = λ h. elim h [ inl one ↦ opens (sym row ∙ one) | inr two ↦ absurd (not_two (sym row ∙ two)) ];
          waiting = λ two. absurd (not_two (sym row ∙ two));
        });
        children = λ fine i args is. absurd (no_child out.children none i args is);
      }

  -- a step that waits for a call
  wait_paid : (n : ℕ) (made_args : Args) (verb : Verb) → verb_in made_args ≡ Some verb → price made_args ≡ 3 → out.answer ≡ answer_is.Wait n → out.children ≡ child_is.One made_args ∷ [] → ((q : ℕ) (x : Node) → last_answer (entry_is.Step pid pick out ∷ J) q ≡ None → CallGoes (entry_is.Step pid pick out ∷ J) q x made_args) → n ≢ 1 → n ≢ 5 → (n ≡ 2 → OpensAt (entry_is.Step pid pick out ∷ J) region × WaitsFor (entry_is.Step pid pick out ∷ J) pid.0 me region) → 4 + due_at (goal_in me.args) n ≤ budget → Paid
  wait_paid n made_args verb v three e one goes not_one not_five waits pays_for =
      let row = row_now (answer_is.Wait n) e in
      record {
        fails = λ c failed. absurd (none-some c (sym (ap failing e) ∙ failed));
        rest = due_at (goal_in me.args) n;
        pays = let sum = ap (λ c. total price (args_in c)) one in omega (arith, sum, pays_for, three);
        own = λ fine. at_now (due_at (goal_in me.args) n) (record {
          due = λ runs. let same = ap (due_at (goal_in me.args)) row in omega (arith, same);
          first = λ five. absurd (not_five (sym row ∙ five));
          opening = λ h. elim h [ inl first ↦ absurd (not_one (sym row ∙ first)) | inr two ↦ (waits (sym row ∙ two)).0 ];
          waiting = λ two. (waits (sym row ∙ two)).1;
        });
        children = λ fine i args is. by i args (ap (λ c. slice_get (args_in c) i) (sym one) ∙ is);
      }
    where
      by : (i : ℕ) (args : Args) → slice_get (made_args ∷ []) i ≡ Some args → At (entry_is.Step pid pick out ∷ J) (made J + i + 1) (child_of pid.0 me args) (price args)
      by zero args is =
          let same : made_args ≡ args = same_Some made_args args is in
          let new = new_unstepped pid pick out J legal me is_me (made J + 0 + 1) (omega arith) in
          subst (λ a. At (entry_is.Step pid pick out ∷ J) (made J + 0 + 1) (child_of pid.0 me a) (price a)) same
          (subst (At (entry_is.Step pid pick out ∷ J) (made J + 0 + 1) (child_of pid.0 me made_args)) (sym three) (at_calls (entry_is.Step pid pick out ∷ J) (made J + 0 + 1) (child_of pid.0 me made_args) 3 verb v (start_call (entry_is.Step pid pick out ∷ J) (made J + 0 + 1) (child_of pid.0 me made_args) new.0 new.1 (goes (made J + 0 + 1) (child_of pid.0 me made_args) new.0))))
      by (suc i) args is = absurd (none-some args is)

  due_here : (n : ℕ) → row_of J pid.0 me ≡ n → due_at (goal_in me.args) n ≤ budget
  due_here n here = let due = at.due move_runs in let same = ap (due_at (goal_in me.args)) here in omega (arith, due, same)

  candidate_paid : row_of J pid.0 me ≡ 0 → (may : Bool) → may_open_in (seen pid pick out J legal me is_me region moved).rows region ≡ may → out ≡ candidate 1 may (place_of J region) (seen pid pick out J legal me is_me region moved).fenced pick → Paid
  candidate_paid here false e is = ends_paid told_is.Nothing (ap (λ (o : StepOut). o.answer) is) (ap (λ (o : StepOut). o.children) is) (let due = due_here 0 here in omega (arith, due))
  candidate_paid here true e is = by (is_open (place_of J region) (seen pid pick out J legal me is_me region moved).fenced) refl is
    where
      by : (b : Bool) → is_open (place_of J region) (seen pid pick out J legal me is_me region moved).fenced ≡ b → out ≡ cond b (ends_with told_is.Nothing) (places (answer_is.More 1) (Some (record { state = place_is.Opening; server = pick }))) → Paid
      by true opened is = ends_paid told_is.Nothing (ap (λ (o : StepOut). o.answer) is) (ap (λ (o : StepOut). o.children) is) (let due = due_here 0 here in omega (arith, due))
      by false unopened is =
          let p = picked_live pid pick out J legal me is_me region moved here e unopened in
          let now = place_now pid pick out J legal me is_me region moved (record { state = place_is.Opening; server = pick }) (ap (λ (o : StepOut). o.place) is) in
          on_paid 1 (ap (λ (o : StepOut). o.answer) is) (ap (λ (o : StepOut). o.children) is) (λ e. (p.0, ap (λ (x : Place). x.server) now ∙ p.1, p.2)) (λ e. omega (arith, e)) (λ e. omega (arith, e)) (let due = due_here 0 here in omega (arith, due))

  open_paid : row_of J pid.0 me ≡ 1 → (server : Server) → is_live J server ≡ true → (place_of J region).server ≡ Some server → out ≡ spawns 2 (child_is.One (args_are.AssignCall region server) ∷ []) → Paid
  open_paid here server live placed is =
      let answer = ap (λ (o : StepOut). o.answer) is in
      let children = ap (λ (o : StepOut). o.children) is in
      let last : last_answer (entry_is.Step pid pick out ∷ J) pid.0 ≡ Some (answer_is.Wait 2) = answer_now pid pick out J ∙ ap Some answer in
      let first : made J + 1 - made J - 1 ≡ 0 = omega arith in
      let made_is : node_of (entry_is.Step pid pick out ∷ J) (made J + 1) ≡ Some (child_of pid.0 me (args_are.AssignCall region server)) =
      node_new pid pick out J me is_me (made J + 1) (omega arith)
      ∙ ap (λ c. option_map (child_of pid.0 me) (slice_get (args_in c) (made J + 1 - made J - 1))) children
      ∙ ap (λ k. option_map (child_of pid.0 me) (slice_get (args_are.AssignCall region server ∷ []) k)) first in
      let since = steps_now pid pick out J in
      wait_paid 2 (args_are.AssignCall region server) (verb_is.AssignRegion region) refl refl answer children (λ q x none. (live, λ stops. absurd (false≢true (sym (ap is_stopped none) ∙ stops)))) (λ e. omega (arith, e)) (λ e. omega (arith, e))
      (λ e. ((server, ap (λ (x : Place). x.server) (place_still pid pick out J legal me is_me region moved (ap (λ (o : StepOut). o.place) is)) ∙ placed, live), (last, made J + 1, server, made_is, omega (arith, since))))
      (let due = due_here 1 here in omega (arith, due))

  opened_told : row_of J pid.0 me ≡ 2 → is_told told_is.Opened (seen pid pick out J legal me is_me region moved).ends ≡ true
  opened_told here =
      let w = at.waiting here in
      let child = w.1 in
      let node = child_of pid.0 me (args_are.AssignCall region w.2) in
      let there : node_of J child ≡ Some node = w.3 in
      let waits : ReadyBy J pid.0 move_step.node (Some (answer_is.Wait 2)) = subst (ReadyBy J pid.0 move_step.node) w.0 move_step.ready in
      let stopped = child_stopped J move_grown pid.0 waits child node there me.above refl in
      let goes = ((all child node there of).1.calls (verb_is.AssignRegion region) refl).goes in
      let last = goes.1 stopped in
      let few = is_there J move_grown child node there in
      told_child J pid.0 (made J + 1) child (omega (arith, few)) (and_from (nat_lt (made_at_step J pid.0) child) (child_in pid.0 (node_of J child)) (lt-ltb (made_at_step J pid.0) child w.4) (ap (child_in pid.0) there ∙ eq-eqb pid.0 pid.0 refl)) last

  confirm_paid : row_of J pid.0 me ≡ 2 → out ≡ opened_or_not 0 (place_of J region).server true → Paid
  confirm_paid here is = ends_paid told_is.Opened (ap (λ (o : StepOut). o.answer) is) (ap (λ (o : StepOut). o.children) is) (let due = due_here 2 here in omega (arith, due))

  -- after a close, or where there is nothing to close
  behind_paid : (goal : Goal) → goal_in me.args ≡ goal → (told : Told) → out.answer ≡ behind_close goal told → out.children ≡ [] → closed_due goal ≤ budget → Paid
  behind_paid goal_is.Unassign g told e none enough = ends_paid told e none (omega (arith, enough))
  behind_paid goal g told e none enough = on_paid 0 e none (λ e. absurd (omega (arith, e))) (λ e. omega (arith, e)) (λ e. omega (arith, e)) (omega (arith, enough))

  close_more : (goal : Goal) → closed_due goal + 4 ≤ close_due goal
  close_more goal_is.Assign = omega arith
  close_more goal = omega arith

  close_paid : row_of J pid.0 me ≡ 3 → (b : Bool) → out ≡ close_or_go 4 (goal_in me.args) region (place_of J region) b → Paid
  close_paid here false is =
      behind_paid (goal_in me.args) refl told_is.Nothing (ap (λ (o : StepOut). o.answer) is) (ap (λ (o : StepOut). o.children) is) (let due = due_here 3 here in let more = close_more (goal_in me.args) in omega (arith, due, more))
  close_paid here true is = by (place_of J region).server is
    where
      by : (o : Option Server) → out ≡ given o 4 (close_at 4 region) → Paid
      by None is = on_paid 4 (ap (λ (o : StepOut). o.answer) is) (ap (λ (o : StepOut). o.children) is) (λ e. absurd (omega (arith, e))) (λ e. omega (arith, e)) (λ e. omega (arith, e)) (let due = due_here 3 here in let more = close_more (goal_in me.args) in omega (arith, due, more))
      by (Some server) is =
          wait_paid 4 (args_are.CloseCall region server) (verb_is.CloseRegion region) refl refl (ap (λ (o : StepOut). o.answer) is) (ap (λ (o : StepOut). o.children) is) (λ q x none. tt) (λ e. omega (arith, e)) (λ e. omega (arith, e)) (λ e. absurd (omega (arith, e)))
          (let due = due_here 3 here in let more = close_more (goal_in me.args) in omega (arith, due, more))

  check_paid : row_of J pid.0 me ≡ 5 → (cause : Option Cause) → out ≡ checked 3 cause → Paid
  check_paid here None is = on_paid 3 (ap (λ (o : StepOut). o.answer) is) (ap (λ (o : StepOut). o.children) is) (λ e. absurd (omega (arith, e))) (λ e. omega (arith, e)) (λ e. omega (arith, e)) (let due = due_here 5 here in let few = close_few (goal_in me.args) in omega (arith, due, few))
    where
      close_few : (goal : Goal) → close_due goal ≤ 11
      close_few goal_is.Assign = omega arith
      close_few goal = omega arith
  check_paid here (Some cause) is = record {
    fails = λ c failed. at.first here;
    rest = 0;
    pays = let sum = ap (λ (o : StepOut). total price (args_in o.children)) is in let due = due_here 5 here in omega (arith, sum, due);
    own = λ fine. absurd (none-some cause (sym fine ∙ ap (λ (o : StepOut). failing o.answer) is));
    children = λ fine i args e. absurd (no_child out.children (ap (λ (o : StepOut). o.children) is) i args e);
  }

  -- nobody in the tree is aborted
  uncut : (out ≡ fails cause_is.Aborted) × (is_aborted J pid.0 ≡ true) → ⊥
  uncut cut = true≢false (sym cut.1 ∙ unaborted)

  by_row : (n : ℕ) → row_of J pid.0 me ≡ n → ((out ≡ fails cause_is.Aborted) × (is_aborted J pid.0 ≡ true)) ⊎ Says pid pick out J legal me is_me region moved n → Paid
  by_row n here (inl cut) = absurd (uncut cut)
  by_row zero here (inr is) = candidate_paid here (may_open_in (seen pid pick out J legal me is_me region moved).rows region) refl is
  by_row (suc zero) here (inr is) =
      let opens = at.opening (inl here) in
      open_paid here opens.0 opens.2 opens.1 (is ∙ ap (λ o. given o 2 (λ server. spawns 2 (child_is.One (args_are.AssignCall region server) ∷ []))) opens.1)
  by_row (suc (suc zero)) here (inr is) = confirm_paid here (is ∙ ap (opened_or_not 0 (place_of J region).server) (opened_told here))
  by_row (suc (suc (suc zero))) here (inr is) = close_paid here (is_open (place_of J region) (seen pid pick out J legal me is_me region moved).fenced) is
  by_row (suc (suc (suc (suc zero)))) here (inr is) = behind_paid (goal_in me.args) refl told_is.Closed (ap (λ (o : StepOut). o.answer) is) (ap (λ (o : StepOut). o.children) is) (due_here 4 here)
  by_row (suc (suc (suc (suc (suc zero))))) here (inr is) = check_paid here (against pid pick out J legal me is_me region moved) is
  by_row (suc (suc (suc (suc (suc (suc n)))))) here (inr is) = absurd is

  pub transit_paid : Paid
  transit_paid = by_row (row_of J pid.0 me) refl (answers pid pick out J legal me is_me region moved (row_of J pid.0 me) refl)
