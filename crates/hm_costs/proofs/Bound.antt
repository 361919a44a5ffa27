-- The kinds are priced, so each tree that nothing disturbs is within its cost.
use Rattle.std.proofs.Common.{◌⊎◌, ◌&&◌, ◌≡◌, ℕ, ◌+◌, ◌≤◌, List, [], ◌∷◌, length, Bool, true, false, ◌==◌, cond, Option, Some, None, is_some, refl, ap, sym, ◌∙◌, subst, arith, inl, inr, length-append}
use Rattle.hm_costs.proofs.At.{IsFreshCrash, at_crash, At, Fresh, IsFreshArgs, Starts, at_calls, at_lined, at_moves, call_due, left, start_call, start_lined, start_orders, start_transit, IsIdle, CallGoes}
use Rattle.hm_costs.proofs.Counted.{lost_same, cost_same, first_counted}
use Rattle.hm_costs.proofs.Live.{dead_stays, down_dead}
use Rattle.hm_costs.proofs.Lost.{CrashDue, at_listed, moving_due}
use Rattle.hm_costs.proofs.RegionsLeave.{within_stays}
use Rattle.hm_model.specs.Costs.{regions_lost, cost}
use Rattle.hm_model.specs.Places.{at_server, load}
use Rattle.hm_model.specs.Tree.{root_node, Node, is_root_in, is_top, made, node_of, root_in, submitted}
use Rattle.hm_model.proofs.Trees.{Grown, grown_all, some_of, step_of, at_top}
use Rattle.hm_data.specs.declared.request.Request.{Request}
use Rattle.hm_model.specs.Kinds.{request_kind, kind_of}
use Rattle.hm_costs.proofs.CrashPaid.{crash_paid}
use Rattle.hm_model.specs.Whereabouts.{crashed_in}
use Rattle.hm_model.specs.Reports.{fits_verb, verb_of}
use Rattle.hm_model.specs.Fleet.{fences_by, fences_if, is_fenced}
use Rattle.hm_data.specs.Numbers.{told_number}
use Rattle.hm_data.specs.declared.call.Told.TheVariants as told_is
use Rattle.hm_model.proofs.NameTies.{same_server-refl}
use Rattle.std.proofs.lemmas.Bool.{and_from, or_left, or_right, cases_eq, cond-false, cond-true, eq-eqb, false≢true, ne_eqb, true≢false}
use Rattle.std.proofs.lemmas.Option.{none-some, same_Some}
use Rattle.hm_names.specs.Server.{Server}
use Rattle.hm_names.specs.declared.pid.Pid.{Pid}
use Rattle.hm_data.specs.declared.answer.Answer.{Answer}
use Rattle.hm_data.specs.declared.answer.Answer.TheVariants as answer_is
use Rattle.hm_data.specs.declared.args.Args.{Args}
use Rattle.hm_data.specs.declared.args.Args.TheVariants as args_are
use Rattle.hm_data.specs.declared.call.Told.{Told}
use Rattle.hm_data.specs.declared.call.Verb.{Verb}
use Rattle.hm_data.specs.declared.call.Verb.TheVariants as verb_is
use Rattle.hm_data.specs.declared.entry.Entry.{Entry}
use Rattle.hm_data.specs.declared.entry.Entry.TheVariants as entry_is
use Rattle.hm_data.specs.declared.place.Goal.TheVariants as goal_is
use Rattle.hm_data.specs.declared.request.Request.TheVariants as request_is
use Rattle.hm_data.specs.declared.step.StepOut.{StepOut}
use Rattle.hm_model.specs.Answers.{done_with, is_aborted, is_stopped, last_answer, report_of}
use Rattle.hm_model.specs.Entries.{IsQuiet, is_refusal}
use Rattle.hm_model.specs.Journal.{Past}
use Rattle.hm_model.specs.Phase.{cause, ended, ended_node, root_ended}
use Rattle.hm_model.specs.Rules.{IsLegal}
use Rattle.hm_model.specs.Verbs.{verb_in}
use Rattle.hm_model.proofs.Forest.{forest_all}
use Rattle.hm_model.proofs.LegalSteps.{ready_stops}
use Rattle.hm_model.proofs.StepDoes.{CallerAt, calls as calls_part, crash as crash_part, lined as lined_part, moves as moves_part, part_of}
use Rattle.hm_costs.specs.Theorem.{CostBound}
use Rattle.hm_costs.proofs.CallPaid.{call_paid}
use Rattle.hm_model.specs.Inputs.{rows_read}
use Rattle.hm_model.specs.Lists.{Line, lines_of, orders_of}
use Rattle.hm_model.specs.Locks.{IsIn}
use Rattle.hm_model.specs.RowsSaid.{all_among, is_live_status, live_among, status_in}
use Rattle.hm_costs.proofs.Dead.{follower_fresh, live_unfenced}
use Rattle.hm_costs.proofs.LinedPaid.{lined_paid}
use Rattle.hm_costs.proofs.Paid.{all_within}
use Rattle.hm_costs.proofs.Prices.{AllAt, ArePriced, Going, IsPaid}
use Rattle.hm_costs.proofs.Spend.{price}
use Rattle.hm_costs.proofs.Stays.{all_stays}
use Rattle.hm_costs.proofs.GoesOn.{sound_all}
use Rattle.hm_costs.proofs.TransitPaid.{transit_paid}
use Rattle.hm_model.proofs.RootTrees.{ended_by}
use Rattle.hm_model.proofs.CallSteps.{fenced_only}
use Rattle.hm_costs.proofs.Trees.{no_root_by_step, quiet_unaborted}

-- a new root is one of these
new_fresh : (entry : Entry) (J : Past) → IsLegal (entry ∷ J) → (r : ℕ) (top : Node) → node_of J r ≡ None → node_of (entry ∷ J) r ≡ Some top → top.above ≡ [] → Fresh (entry ∷ J) r top
new_fresh (entry_is.Submit nonce request) J legal r top none is at_top = elim (cases_eq r (made J + 1)) [
  | inl new ↦ (subst (λ (n : Node). IsFreshArgs n.args ⊎ IsFreshCrash (entry_is.Submit nonce request ∷ J) r n.args) (same_Some (submitted J request r) top (sym (cond-true (r == made J + 1) (Some (submitted J request r)) (node_of J r) (eq-eqb r (made J + 1) new)) ∙ is)) (inl tt), at_top)
  | inr old ↦ absurd (none-some top (sym none ∙ sym (cond-false (r == made J + 1) (Some (submitted J request r)) (node_of J r) (ne_eqb r (made J + 1) old)) ∙ is))
]
new_fresh (entry_is.Step pid pick out) J legal r top none is at_top = absurd (no_root_by_step pid pick out J legal r top none is at_top)
new_fresh (entry_is.Undo pid row out) J legal r top none is at_top = (inl (follower_fresh pid row out J legal r top none is), at_top)
new_fresh (entry_is.Down server) J legal r top none is at_top = elim (cases_eq r (made J + 1)) [
  | inl new ↦
      let crash : args_are.Crash server ≡ top.args = ap (λ (n : Node). n.args) (same_Some (root_node r (args_are.Crash server) 1) top (sym (cond-true (r == made J + 1) (Some (root_node r (args_are.Crash server) 1)) (node_of J r) (eq-eqb r (made J + 1) new)) ∙ is)) in
      let lost = cond-true (r == made J + 1) (load J server) (regions_lost J r) (eq-eqb r (made J + 1) new) in
      (inr (server, sym crash, down_dead server J legal, at_server J server, sym lost, λ y here. at_listed J server y here), at_top)
  | inr old ↦ absurd (none-some top (sym none ∙ sym (cond-false (r == made J + 1) (Some (root_node r (args_are.Crash server) 1)) (node_of J r) (ne_eqb r (made J + 1) old)) ∙ is))
]
new_fresh (entry_is.Base part) J legal r top none is at_top = absurd (none-some top is)
new_fresh entry J legal r top none is at_top = absurd (none-some top (sym none ∙ is))

one_at_least : (J : Past) (r : ℕ) (args : Args) → IsFreshArgs args → 1 ≤ cost J r args
one_at_least J r (args_are.Root (request_is.CreateNamespace ns) first) fresh = omega arith
one_at_least J r (args_are.Root request first) fresh = omega arith
one_at_least J r (args_are.Transit region goal to) fresh = omega arith
one_at_least J r (args_are.SweepLayout root) fresh = omega arith
one_at_least J r args fresh = absurd fresh

-- a root at its first step
module _ (pid : Pid) (pick : Option Server) (out : StepOut) (J : Past) (legal : IsLegal J) (above : List ℕ) (root first_id : ℕ) (top_is : above ≡ []) where
  abbrev node : Args → Node
  node args = record { above = above; root = root; args = args; first = first_id }

  abbrev Begins : Args → Type 0
  Begins args = (budget : ℕ) × At J pid.0 (node args) budget × (1 + budget ≤ cost (entry_is.Step pid pick out ∷ J) pid.0 args)

  begin_args : (args : Args) → IsFreshArgs args → last_answer J pid.0 ≡ None → report_of J pid.0 ≡ None → Begins args
  begin_args (args_are.Root (request_is.CreateTable table keys) first) fresh last report = (_, at_lined J pid.0 (node _) _ refl refl refl (λ runs. start_lined J legal pid.0 (node _) 0 _ _ refl refl refl last (inl refl) (inl top_is) refl), (let e = length-append keys ([] ∷ []) in omega (arith, e)))
  begin_args (args_are.Root (request_is.SplitRegion region key) first) fresh last report = (26, at_lined J pid.0 (node _) 26 refl refl refl (λ runs. start_orders J legal pid.0 (node _) 26 refl refl last either), omega arith)
    where
      either : (lines : List Line) → IsIn lines (orders_of 8) → Starts J pid.0 (node (args_are.Root (request_is.SplitRegion region key) first)) 26 lines
      either lines (inl same) = subst (Starts J pid.0 (node (args_are.Root (request_is.SplitRegion region key) first)) 26) (sym same) (record { n = 0; enough = omega arith; known = inl refl; checks = inl top_is; later = refl })
      either lines (inr (inl same)) = subst (Starts J pid.0 (node (args_are.Root (request_is.SplitRegion region key) first)) 26) (sym same) (record { n = 0; enough = omega arith; known = inl refl; checks = inl top_is; later = refl })
      either lines (inr (inr never)) = absurd never
  begin_args (args_are.Root (request_is.MergeRegions regions) first) fresh last report = (_, at_lined J pid.0 (node _) _ refl refl refl (λ runs. start_lined J legal pid.0 (node _) 0 _ _ refl refl refl last (inl refl) (inl top_is) refl), omega arith)
  begin_args (args_are.Root (request_is.Move region to) first) fresh last report = (12, at_moves J pid.0 (node _) 12 region refl refl refl (start_transit J pid.0 (node _) region 5 refl last (λ e. top_is) (λ e. omega (arith, e)) (λ e. omega (arith, e))), omega arith)
  begin_args (args_are.Root (request_is.DeleteTable table) first) fresh last report =
      let n = length (all_among table (rows_read J (args_are.Root (request_is.DeleteTable table) first))) in
      let same = first_counted pid pick out J last table (λ row. true) in
      (left (args_are.Root (request_is.DeleteTable table) first) n (lines_of (kind_of (args_are.Root (request_is.DeleteTable table) first))), at_lined J pid.0 (node (args_are.Root (request_is.DeleteTable table) first)) _ refl refl refl (λ runs. start_lined J legal pid.0 (node (args_are.Root (request_is.DeleteTable table) first)) n _ _ refl refl refl last (inr (record { counter = tt; top = top_is; idle = subst IsIdle (sym last) tt; soon = refl; counted = (tt, (omega arith, (tt, tt))) })) (inl top_is) refl), omega (arith, same))
  begin_args (args_are.Root (request_is.EnableTable table) first) fresh last report =
      let n = length (live_among table (rows_read J (args_are.Root (request_is.EnableTable table) first))) in
      let same = first_counted pid pick out J last table (λ row. is_live_status (status_in (Some row))) in
      (left (args_are.Root (request_is.EnableTable table) first) n (lines_of (kind_of (args_are.Root (request_is.EnableTable table) first))), at_lined J pid.0 (node (args_are.Root (request_is.EnableTable table) first)) _ refl refl refl (λ runs. start_lined J legal pid.0 (node (args_are.Root (request_is.EnableTable table) first)) n _ _ refl refl refl last (inr (record { counter = tt; top = top_is; idle = subst IsIdle (sym last) tt; soon = refl; counted = (tt, (tt, (omega arith, (tt, tt)))) })) (inl top_is) refl), omega (arith, same))
  begin_args (args_are.Root (request_is.DisableTable table) first) fresh last report =
      let n = length (live_among table (rows_read J (args_are.Root (request_is.DisableTable table) first))) in
      let same = first_counted pid pick out J last table (λ row. is_live_status (status_in (Some row))) in
      (left (args_are.Root (request_is.DisableTable table) first) n (lines_of (kind_of (args_are.Root (request_is.DisableTable table) first))), at_lined J pid.0 (node (args_are.Root (request_is.DisableTable table) first)) _ refl refl refl (λ runs. start_lined J legal pid.0 (node (args_are.Root (request_is.DisableTable table) first)) n _ _ refl refl refl last (inr (record { counter = tt; top = top_is; idle = subst IsIdle (sym last) tt; soon = refl; counted = (tt, (tt, (omega arith, (tt, tt)))) })) (inl top_is) refl), omega (arith, same))
  begin_args (args_are.Root request first) fresh last report = (_, at_lined J pid.0 (node _) _ refl refl refl (λ runs. start_lined J legal pid.0 (node _) 0 _ _ refl refl refl last (inl refl) (inl top_is) refl), omega arith)
  begin_args (args_are.Transit region goal_is.Assign to) fresh last report = (6, at_moves J pid.0 (node _) 6 region refl refl refl (start_transit J pid.0 (node _) region 0 refl last (λ e. top_is) (λ e. omega (arith, e)) (λ e. omega (arith, e))), omega arith)
  begin_args (args_are.Transit region goal_is.Unassign to) fresh last report = (5, at_moves J pid.0 (node _) 5 region refl refl refl (start_transit J pid.0 (node _) region 3 refl last (λ e. top_is) (λ e. omega (arith, e)) (λ e. omega (arith, e))), omega arith)
  begin_args (args_are.Transit region goal_is.Move to) fresh last report = absurd fresh
  begin_args (args_are.SweepLayout own) fresh last report = (3, at_calls J pid.0 (node _) 3 (verb_is.Sweep own) refl (start_call J pid.0 (node _) last report tt), omega arith)
  begin_args args fresh last report = absurd fresh

-- who has no step has no report
no_report : (J : Past) → Grown J → (r : ℕ) (x : Node) → node_of J r ≡ Some x → last_answer J r ≡ None → report_of J r ≡ None
no_report J g r x is last = by (report_of J r) refl
  where
    by : (o : Option Told) → report_of J r ≡ o → o ≡ None
    by None e = refl
    by (Some told) e =
        let f = g.fits r told e in
        let v = g.verbs r f.0 f.1 in
        let uncalled = subst (CallerAt f.0 (verb_of J r)) last (g.calls r v.0 v.1 f.0 v.2) in
        absurd (none-some f.0 (sym uncalled ∙ f.1))

-- in the tree nobody is aborted
tree_unaborted : (J : Past) (r : ℕ) (top : Node) → Going J r top → (q : ℕ) (x : Node) → node_of J q ≡ Some x → x.root ≡ r → is_aborted J q ≡ false
tree_unaborted J r top going q x is of = by (is_aborted J q) refl
  where
    by : (b : Bool) → is_aborted J q ≡ b → b ≡ false
    by false e = refl
    by true e =
        let root = (forest_all J going.legal).aborted q e in
        let here = at_top J (grown_all J going.legal) q x is (sym (ap is_root_in is) ∙ root) in
        absurd (true≢false (sym e ∙ ap (is_aborted J) (sym here ∙ of) ∙ quiet_unaborted J r going.quiet))

-- a call that can be reported awaits its answer
awaits : (J : Past) (r : ℕ) (top : Node) → Going J r top → (q : ℕ) (x : Node) → node_of J q ≡ Some x → x.root ≡ r → (verb : Verb) → verb_of J q ≡ Some verb → ended J q ≡ false → (n : ℕ) × (last_answer J q ≡ Some (answer_is.Await n))
awaits J r top going q x is of verb called unended =
    let g = grown_all J going.legal in
    let v = g.verbs q verb called in
    by (last_answer J q) refl (g.calls q v.0 v.1 verb v.2)
  where
    runs : (last : Option Answer) → last_answer J q ≡ last → is_stopped last ≡ true → ⊥
    runs last e stops = at x.above refl
      where
        top_ended : q ≡ r → (o : Option Answer) → last_answer J q ≡ o → is_stopped o ≡ true → ⊥
        top_ended here None e h = false≢true h
        top_ended here (Some (answer_is.Done told)) e h = true≢false (sym (ended_by J r going.clean ∙ ap (λ o. is_some (done_with o)) (ap (last_answer J) (sym here) ∙ e)) ∙ going.unended)
        top_ended here (Some (answer_is.Fail c)) e h = (sound_all J going.legal).caused q x is c e (ap (cause J) of ∙ going.clean)
        top_ended here (Some answer_is.Undone) e h = (sound_all J going.legal).undone q e
        top_ended here (Some answer) e h = false≢true h

        at : (above : List ℕ) → x.above ≡ above → ⊥
        at [] a = top_ended (sym ((grown_all J going.legal).tops q x is a) ∙ of) last e stops
        at (u ∷ rest) a = true≢false (sym (ap (ended_node J q) is ∙ ap (λ l. cond (is_top l) (root_ended J q) (is_stopped (last_answer J q))) a ∙ ap is_stopped e ∙ stops) ∙ unended)

    by : (last : Option Answer) → last_answer J q ≡ last → CallerAt verb (verb_of J q) last → (n : ℕ) × (last_answer J q ≡ Some (answer_is.Await n))
    by None e at = absurd (none-some verb (sym at ∙ called))
    by (Some (answer_is.Await n)) e at = (n, e)
    by (Some (answer_is.Done told)) e at = absurd (runs (Some (answer_is.Done told)) e refl)
    by (Some (answer_is.Fail c)) e at = absurd (runs (Some (answer_is.Fail c)) e refl)
    by (Some answer_is.Undone) e at = absurd (runs (Some answer_is.Undone) e refl)
    by (Some answer) e at = absurd at

not_request : (request : Request) → request_kind request ≡ 11 → ⊥
not_request (request_is.CreateNamespace ns) kind = omega (arith, kind)
not_request request kind = omega (arith, kind)

crash_server : (args : Args) → kind_of args ≡ 11 → (server : Server) × (args ≡ args_are.Crash server)
crash_server (args_are.Crash server) kind = (server, refl)
crash_server (args_are.Root request first) kind = absurd (not_request request kind)
crash_server args kind = absurd (omega (arith, kind))

steps_priced : (pid : Pid) (pick : Option Server) (out : StepOut) (J : Past) → IsLegal (entry_is.Step pid pick out ∷ J) → (r : ℕ) (top : Node) → Going J r top → AllAt At Fresh price J r → (me : Node) → node_of J pid.0 ≡ Some me → me.root ≡ r → (budget : ℕ) → At J pid.0 me budget → IsPaid At Fresh price pid pick out J me budget
steps_priced pid pick out J legal r top going all me is_me of budget at =
    let unaborted = tree_unaborted J r top going pid.0 me is_me of in
    let st = step_of pid pick out J (grown_all J legal.0) legal in
    let runs = ready_stops J pid.0 st.node (last_answer J pid.0) st.ready in
    elim (part_of me.args) [
      | lined_part exact unmoved uncalled ↦ lined_paid pid pick out J legal me is_me unaborted budget exact unmoved uncalled (at.lined exact runs)
      | crash_part kind unmoved uncalled ↦
          let server = crash_server me.args kind in
          crash_paid pid pick out J legal r all me is_me of unaborted budget server.0 server.1 (at.crash server.0 (ap crashed_in server.1))
      | moves_part region m kind uncalled ↦ transit_paid pid pick out J legal r all me is_me of unaborted budget region m (at.moves region m)
      | calls_part verb v unmoved exact ↦ call_paid pid pick out J legal me is_me (live_unfenced J legal.0) unaborted budget verb v (at.calls verb v)
    ]

told_goes : (call : Pid) (told : Told) (J : Past) (me : Node) → node_of J call.0 ≡ Some me → (verb : Verb) → verb_in me.args ≡ Some verb → fits_verb verb told ≡ true → (args : Args) → me.args ≡ args → CallGoes J call.0 me args → CallGoes (entry_is.Report call told ∷ J) call.0 me args
told_goes call told J me is verb v fits (args_are.AssignCall region server) e h = h
told_goes call told J me is verb v fits (args_are.FenceCall server) e h = (λ t r. now, λ stops. or_right _ (is_fenced J server) (h.1 stops))
  where
    now : is_fenced (entry_is.Report call told ∷ J) server ≡ true
    now =
        let own : verb_is.Fence server ≡ verb = same_Some (verb_is.Fence server) verb (sym (ap verb_in e) ∙ v) in
        let told_is_fenced = fenced_only server told (ap (λ w. fits_verb w told) own ∙ fits) in
        or_left ((told_number told == told_number told_is.Fenced) && fences_if (node_of J call.0) server) (is_fenced J server) (and_from (told_number told == told_number told_is.Fenced) (fences_if (node_of J call.0) server) told_is_fenced (ap (λ n. fences_if n server) is ∙ ap (λ a. fences_by a server) e ∙ same_server-refl server))
told_goes call told J me is verb v fits (args_are.LayoutCall root) e h = h
told_goes call told J me is verb v fits args e h = tt

reports_priced : (call : Pid) (told : Told) (J : Past) → IsLegal (entry_is.Report call told ∷ J) → (r : ℕ) (top : Node) → Going J r top → IsQuiet (entry_is.Report call told ∷ J) r → (me : Node) → node_of J call.0 ≡ Some me → me.root ≡ r → (budget : ℕ) → At J call.0 me budget → (rest : ℕ) × (1 + rest ≤ budget) × At (entry_is.Report call told ∷ J) call.0 me rest
reports_priced call told J legal r top going quiet me is_me of budget at =
    let g = grown_all J legal.0 in
    let verb = some_of (verb_of J call.0) legal.1.1.0.0 in
    let v = g.verbs call.0 verb.0 verb.1 in
    let own : verb_in me.args ≡ Some verb.0 = ap (λ (n : Node). verb_in n.args) (same_Some me v.0 (sym is_me ∙ v.1)) ∙ v.2 in
    let c = at.calls verb.0 own in
    let waits = awaits J r top going call.0 me is_me of verb.0 verb.1 legal.1.1.0.2 in
    let due = c.due in
    let now = ap (λ o. call_due o (report_of J call.0)) waits.1 in
    let none = ap (λ o. call_due (Some (answer_is.Await waits.0)) o) legal.1.1.0.1 in
    let report : report_of (entry_is.Report call told ∷ J) call.0 ≡ Some told = cond-true (call.0 == call.0) (Some told) (report_of J call.0) (eq-eqb call.0 call.0 refl) in
    let later = ap (λ o. call_due o (report_of (entry_is.Report call told ∷ J) call.0)) waits.1 in
    let one = ap (λ o. call_due (Some (answer_is.Await waits.0)) o) report in (
      1,
      omega (arith, due, now, none),
      at_calls (entry_is.Report call told ∷ J) call.0 me 1 verb.0 own (record {
        due = omega (arith, later, one);
        clean = λ t e. ap is_refusal (sym (same_Some told t (sym report ∙ e))) ∙ quiet.1 (ap root_in is_me ∙ of);
        goes = told_goes call told J me is_me verb.0 own (legal.1.1.1.0 verb.0 verb.1) me.args refl c.goes;
      }),
    )

one_or_crash : (J : Past) (r : ℕ) (args : Args) → IsFreshArgs args ⊎ IsFreshCrash J r args → 1 ≤ cost J r args
one_or_crash J r args (inl fresh) = one_at_least J r args fresh
one_or_crash J r args (inr crash) = let e = ap (cost J r) crash.1 in omega (arith, e)

fresh_stays : (entry : Entry) (J : Past) → IsLegal (entry ∷ J) → (r : ℕ) (top : Node) → Going J r top → Going (entry ∷ J) r top → last_answer (entry ∷ J) r ≡ None → Fresh J r top → Fresh (entry ∷ J) r top
fresh_stays entry J legal r top going later last (inl fresh, at_top) = (inl fresh, at_top)
fresh_stays entry J legal r top going later last (inr crash, at_top) =
    (inr (crash.0, crash.1, dead_stays entry J legal crash.0 crash.2, crash.3, crash.4 ∙ sym (lost_same entry J legal r top going.is_top), within_stays entry J legal r top going.is_top crash.0 crash.2 crash.3 crash.5), at_top)

begins_priced : (pid : Pid) (pick : Option Server) (out : StepOut) (J : Past) → IsLegal (entry_is.Step pid pick out ∷ J) → (top : Node) → Going J pid.0 top → last_answer J pid.0 ≡ None → Fresh J pid.0 top → (budget : ℕ) × At J pid.0 top budget × (1 + budget ≤ cost (entry_is.Step pid pick out ∷ J) pid.0 top.args)
begins_priced pid pick out J legal top going last (inl fresh, at_top) =
    begin_args pid pick out J legal.0 top.above top.root top.first at_top top.args fresh last (no_report J (grown_all J legal.0) pid.0 top going.is_top last)
begins_priced pid pick out J legal top going last (inr crash, at_top) =
    let k = length crash.3 in
    let e = ap (cost (entry_is.Step pid pick out ∷ J) pid.0) crash.1 in
    let lost = crash.4 in (
      4 + moving_due k,
      at_crash J pid.0 top (4 + moving_due k) crash.0 crash.1 (record { dead = crash.2; due = subst (CrashDue J pid.0 top crash.0 (4 + moving_due k)) (sym last) (crash.3, omega arith, crash.5) }),
      omega (arith, e, lost),
    )

priced : ArePriced At Fresh price
priced = record {
  new = new_fresh;
  waits = fresh_stays;
  one = λ J r top fresh. one_or_crash J r top.args fresh.0;
  begins = begins_priced;
  costs = cost_same;
  steps = steps_priced;
  reports = reports_priced;
  stays = λ entry J legal r top going later all q x is of spares begun budget at. all_stays entry J legal r top going later begun all q x is of spares budget at;
}

pub cost_bound_is : CostBound
cost_bound_is J legal r top is at_top quiet = all_within At Fresh price priced J legal r top is at_top quiet
