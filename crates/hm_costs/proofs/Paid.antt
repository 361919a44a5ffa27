-- The entries of a tree that nothing disturbs are paid for, whatever the kinds.
use Rattle.std.proofs.Common.{◌≡◌, ◌≢◌, ℕ, ◌+◌, ◌-◌, ◌<◌, ◌≤◌, List, [], ◌∷◌, length, Bool, true, false, not, ◌||◌, ◌&&◌, ◌==◌, cond, nat_lt, Option, Some, None, is_some, refl, ap, sym, ◌∙◌, subst, arith, inl, inr, ◌⊎◌, slice_get, nat_le, suc, zero}
use Rattle.std.proofs.lemmas.Bool.{and_from, cases_Bool, cases_eq, cond-false, cond-true, eq-eqb, eqb-true, false≢true, le-ltb, lt-ltb, ne_eqb, true≢false, and_parts, le-leb, or_left, or_right}
use Rattle.std.proofs.lemmas.Option.{none-some, same_Some, slice_get_past}
use Rattle.hm_names.specs.Server.{Server}
use Rattle.hm_names.specs.declared.pid.Pid.{Pid}
use Rattle.hm_data.specs.declared.answer.Answer.{Answer}
use Rattle.hm_data.specs.declared.answer.Answer.TheVariants as answer_is
use Rattle.hm_data.specs.declared.answer.Cause.{Cause}
use Rattle.hm_data.specs.declared.args.Args.{Args}
use Rattle.hm_data.specs.declared.call.Told.{Told}
use Rattle.hm_data.specs.declared.entry.Entry.{Entry}
use Rattle.hm_data.specs.declared.entry.Entry.TheVariants as entry_is
use Rattle.hm_data.specs.declared.step.StepOut.{StepOut}
use Rattle.hm_model.specs.Answers.{done_with, failing, is_stopped, last_answer}
use Rattle.hm_model.specs.Apart.{IsSameTree, tree_of}
use Rattle.hm_model.specs.Costs.{cost}
use Rattle.hm_model.specs.Entries.{IsQuiet, entries_of, makes}
use Rattle.hm_model.specs.Journal.{Past}
use Rattle.hm_model.specs.Phase.{all_stopped, cause, ended, in_tree, or_else, root_ended, root_over, rolled_back, stopped_in, ended_node}
use Rattle.hm_model.specs.Rules.{IsLegal}
use Rattle.hm_model.specs.Tree.{Node, args_in, child_of, made, node_of, root_in, root_of, is_root_in, is_top}
use Rattle.hm_model.specs.Undo.{is_empty, pushed, stack, Undoable, unless_failed}
use Rattle.hm_model.proofs.Apart.{others_stay}
use Rattle.hm_model.proofs.Parted.{no_node}
use Rattle.hm_model.proofs.Grown.{grown_all as made_all, made_up_to, nodes_stay}
use Rattle.hm_model.proofs.LegalSteps.{StepFacts, ready_stops}
use Rattle.hm_model.proofs.StepDoes.{Does, CallerAt, IsStepAnswer}
use Rattle.hm_model.proofs.Trees.{Grown, IsRooted, all_below_from, answer_now, at_top, does_of, down_rooted, grown_all, is_there, le_or_lt, new_child, node_same, old_or_new, other_answer, some_of, step_of, submit_rooted, undo_rooted}
use Rattle.hm_costs.proofs.Prices.{ArePriced, Going, IsPaid, Spares}
use Rattle.hm_costs.proofs.Sums.{price_of, sum_append, sum_below, sum_same, sum_swap, sum_total, total}
use Rattle.hm_model.proofs.RootTrees.{absent_all, ended_by, of_tree, over_stopped, step_root, call_root, undo_root}
use Rattle.hm_costs.proofs.Trees.{entries_other, no_root_by_step, one_if_true, quiet_before}
use Rattle.hm_model.proofs.PlainActs.{ChildrenWait}
use Rattle.hm_model.proofs.Answered.{done_stops}
use Rattle.hm_data.specs.declared.act.Back.{Back}
use Rattle.hm_data.specs.declared.catalog.Edit.{Edit}
use Rattle.hm_data.specs.declared.act.Back.TheVariants as back_is
use Rattle.hm_model.specs.Reports.{verb_of}
use Rattle.hm_model.specs.Procedures.{latest}

module _ (At : Past → ℕ → Node → ℕ → Type 0) (Fresh : Past → ℕ → Node → Type 0) (price : Args → ℕ) where
  -- a root without a step
  pub record Lone (J : Past) (r : ℕ) (top : Node) : Type 0 where
    pub going : Going J r top
    pub unstepped : last_answer J r ≡ None
    pub one : entries_of J r ≡ 1
    pub fresh : Fresh J r top
    pub only : (q : ℕ) (x : Node) → node_of J q ≡ Some x → x.root ≡ r → q ≡ r
    pub stacked : stack J r ≡ []

  -- a tree at work: what each procedure may still cost, with the entries that are there, is within the cost
  pub record Spends (J : Past) (r : ℕ) (top : Node) : Type 0 where
    pub going : Going J r top
    pub stepped : last_answer J r ≢ None
    pub budget : ℕ → ℕ
    pub each : (q : ℕ) (x : Node) → node_of J q ≡ Some x → x.root ≡ r → At J q x (budget q)
    pub none : (q : ℕ) → made J < q → budget q ≡ 0
    pub within : entries_of J r + sum_below (made J + 1) budget ≤ cost J r top.args

  pub data Paid (J : Past) (r : ℕ) (top : Node) : Type 0 where
    over : root_ended J r ≡ true → last_answer J r ≢ None → entries_of J r ≤ cost J r top.args → Paid J r top
    lone : Lone J r top → Paid J r top
    spends : Spends J r top → Paid J r top

  -- what an entry of another tree leaves
  module _ (priced : ArePriced At Fresh price) (entry : Entry) (J : Past) (legal : IsLegal (entry ∷ J)) (r : ℕ) (top : Node) (is : node_of J r ≡ Some top) (at_top : top.above ≡ []) (quiet : IsQuiet (entry ∷ J) r) (other : r ≢ tree_of J entry) where
    same : IsSameTree J (entry ∷ J) r
    same = others_stay entry J legal r top is at_top other

    own : top.root ≡ r
    own = (grown_all J legal.0).tops r top is at_top

    last_same : last_answer (entry ∷ J) r ≡ last_answer J r
    last_same = (same.same r top is own).last

    there : node_of (entry ∷ J) r ≡ Some top
    there = nodes_stay entry J legal r top is

    few : r ≤ made J
    few = is_there J (grown_all J legal.0) r top is

    entries_same : entries_of (entry ∷ J) r ≡ entries_of J r
    entries_same = entries_other entry J legal r top is other

    ended_same : (b : Bool) → root_ended J r ≡ b → root_ended (entry ∷ J) r ≡ b
    ended_same b e =
        ap (λ c. root_over c (rolled_back (entry ∷ J) r) (done_with (last_answer (entry ∷ J) r))) same.cause_is
        ∙ ap (λ s. root_over (cause J r) (s && is_empty (stack (entry ∷ J) r)) (done_with (last_answer (entry ∷ J) r))) same.stopped
        ∙ ap (λ s. root_over (cause J r) (all_stopped J r && is_empty s) (done_with (last_answer (entry ∷ J) r))) same.stack_is
        ∙ ap (λ s. root_over (cause J r) (rolled_back J r) (done_with s)) last_same ∙ e

    going_on : Going J r top → Going (entry ∷ J) r top
    going_on going = record { legal = legal; quiet = quiet; is_top = there; at_top = at_top; unended = ended_same false going.unended; clean = same.cause_is ∙ going.clean }

    spared : (q : ℕ) (x : Node) → node_of J q ≡ Some x → x.root ≡ r → (e : Entry) → entry ≡ e → Spares e q
    spared q x at of (entry_is.Step pid pick out) e = λ here. other (sym (ap (tree_of J) e ∙ ap (root_of J) (sym here) ∙ ap root_in at ∙ of))
    spared q x at of (entry_is.Report call told) e = λ here. other (sym (ap (tree_of J) e ∙ ap (root_of J) (sym here) ∙ ap root_in at ∙ of))
    spared q x at of (entry_is.Base part) e = let own : IsLegal (entry_is.Base part ∷ J) = subst (λ n. IsLegal (n ∷ J)) e legal in none-some x (sym (no_node part J own.1.0 q) ∙ at)
    spared q x at of entry e = tt

    more_made : made J ≤ made (entry ∷ J)
    more_made = by entry legal
      where
        by : (e : Entry) → IsLegal (e ∷ J) → made J ≤ made (e ∷ J)
        by (entry_is.Base part) e = absurd (none-some top (sym (no_node part J e.1.0 r) ∙ is))
        by entry e = omega arith

    pub other_paid : Paid J r top → Paid (entry ∷ J) r top
    other_paid (over ended stepped within) =
        let cost_same = priced.costs entry J legal r top is stepped in
        over (ended_same true ended) (λ e. stepped (sym last_same ∙ e)) (omega (arith, within, cost_same, entries_same))
    other_paid (lone l) = lone (record {
      going = going_on l.going;
      unstepped = last_same ∙ l.unstepped;
      one = entries_same ∙ l.one;
      fresh = priced.waits entry J legal r top l.going (going_on l.going) (last_same ∙ l.unstepped) l.fresh;
      only = λ q x at of. l.only q x (same.members q x at of) of;
      stacked = same.stack_is ∙ l.stacked;
    })
    other_paid (spends s) = spends (record {
      going = going_on s.going;
      stepped = λ e. s.stepped (sym last_same ∙ e);
      budget = s.budget;
      each = λ q x at of.
          let was = same.members q x at of in
          priced.stays entry J legal r top s.going (going_on s.going) (λ p y py pr. (s.budget p, s.each p y py pr)) q x was of (spared q x was of entry refl) s.stepped (s.budget q) (s.each q x was of);
      none = λ q lt. let m = more_made in s.none q (omega (arith, lt, m));
      within =
          let cost_same = priced.costs entry J legal r top is s.stepped in
          let m = more_made in
          let e : made (entry ∷ J) + 1 ≡ (made J + 1) + (made (entry ∷ J) - made J) = omega (arith, m) in
          let longer : sum_below (made (entry ∷ J) + 1) s.budget ≡ sum_below (made J + 1) s.budget + sum_below (made (entry ∷ J) - made J) (λ i. s.budget ((made J + 1) + i)) = ap (λ k. sum_below k s.budget) e ∙ sum_append (made J + 1) (made (entry ∷ J) - made J) s.budget in
          let nothing = sum_none (made (entry ∷ J) - made J) (λ i. s.budget ((made J + 1) + i)) (λ i. s.none ((made J + 1) + i) (omega arith)) in
          let w = s.within in
          omega (arith, w, cost_same, entries_same, longer, nothing);
    })
      where
        sum_none : (n : ℕ) (f : ℕ → ℕ) → ((i : ℕ) → f i ≡ 0) → sum_below n f ≡ 0
        sum_none zero f zeros = refl
        sum_none (suc n) f zeros = let here = zeros n in let on = sum_none n f zeros in omega (arith, here, on)

  -- a tree before a step of it: what its procedures may still cost is within the cost that holds after the step
  pub record Ready (pid : Pid) (pick : Option Server) (out : StepOut) (J : Past) (r : ℕ) (top : Node) : Type 0 where
    pub going : Going J r top
    pub first : (last_answer J r ≢ None) ⊎ (((q : ℕ) (x : Node) → node_of J q ≡ Some x → x.root ≡ r → q ≡ r) × (stack J r ≡ []))
    pub budget : ℕ → ℕ
    pub each : (q : ℕ) (x : Node) → node_of J q ≡ Some x → x.root ≡ r → At J q x (budget q)
    pub none : (q : ℕ) → made J < q → budget q ≡ 0
    pub within : entries_of J r + sum_below (made J + 1) budget ≤ cost (entry_is.Step pid pick out ∷ J) r top.args

  -- a step of the tree
  module _ (priced : ArePriced At Fresh price) (pid : Pid) (pick : Option Server) (out : StepOut) (J : Past) (legal : IsLegal (entry_is.Step pid pick out ∷ J)) (r : ℕ) (top : Node) (is : node_of J r ≡ Some top) (at_top : top.above ≡ []) (quiet : IsQuiet (entry_is.Step pid pick out ∷ J) r) (me : Node) (is_me : node_of J pid.0 ≡ Some me) (of : me.root ≡ r) (ready : Ready pid pick out J r top) where
    grown : Grown J
    grown = grown_all J legal.0

    step : StepFacts J pid.0 pick out
    step = step_of pid pick out J grown legal

    does : Does J pid.0 step.node.args (last_answer J pid.0) step.sheet.rows out
    does = does_of pid pick out J grown step

    spent : IsPaid At Fresh price pid pick out J me (ready.budget pid.0)
    spent = priced.steps pid pick out J legal r top ready.going (λ q x at root. (ready.budget q, ready.each q x at root)) me is_me of (ready.budget pid.0) (ready.each pid.0 me is_me of)

    mine : (root_of J pid.0 == r) ≡ true
    mine = eq-eqb (root_of J pid.0) r (ap root_in is_me ∙ of)

    pid_few : pid.0 ≤ made J
    pid_few = is_there J grown pid.0 me is_me

    abbrev made_children : List Args
    made_children = args_in out.children

    lowered : ℕ → ℕ
    lowered q = cond (q == pid.0) spent.rest (cond (nat_lt (made J) q) (price_of price (slice_get made_children (q - made J - 1))) (ready.budget q))

    lowered_me : lowered pid.0 ≡ spent.rest
    unfolding lowered
    lowered_me = cond-true (pid.0 == pid.0) spent.rest _ (eq-eqb pid.0 pid.0 refl)

    lowered_old : (q : ℕ) → q ≤ made J → q ≢ pid.0 → lowered q ≡ ready.budget q
    unfolding lowered
    lowered_old q le differs =
        cond-false (q == pid.0) spent.rest _ (ne_eqb q pid.0 differs)
        ∙ cond-false (nat_lt (made J) q) (price_of price (slice_get made_children (q - made J - 1))) (ready.budget q) (le-ltb (made J) q le)

    lowered_new : (q : ℕ) → made J < q → lowered q ≡ price_of price (slice_get made_children (q - made J - 1))
    unfolding lowered
    lowered_new q lt =
        let le = pid_few in
        cond-false (q == pid.0) spent.rest _ (ne_eqb q pid.0 (λ e. omega (arith, le, lt, e)))
        ∙ cond-true (nat_lt (made J) q) (price_of price (slice_get made_children (q - made J - 1))) (ready.budget q) (lt-ltb (made J) q lt)

    lowered_sum : sum_below (made J + length made_children + 1) lowered + ready.budget pid.0 ≡ sum_below (made J + 1) ready.budget + spent.rest + total price made_children
    lowered_sum =
        let e : made J + length made_children + 1 ≡ (made J + 1) + length made_children = omega arith in
        let parts = ap (λ k. sum_below k lowered) e ∙ sum_append (made J + 1) (length made_children) lowered in
        let new = sum_same (length made_children) (λ i. lowered ((made J + 1) + i)) (λ i. price_of price (slice_get made_children i)) (λ i lt. lowered_new ((made J + 1) + i) (omega arith) ∙ ap (λ k. price_of price (slice_get made_children k)) (omega arith)) in
        let all = sum_total price made_children in
        let le = pid_few in
        let swap = sum_swap (made J + 1) lowered ready.budget pid.0 (omega (arith, le)) (λ q lt differs. lowered_old q (omega (arith, lt)) differs) in
        let here = lowered_me in
        omega (arith, parts, new, all, swap, here)

    entries_more : entries_of (entry_is.Step pid pick out ∷ J) r ≡ entries_of J r + 1
    entries_more = one_if_true (root_of J pid.0 == r) (entries_of J r) mine

    within_now : entries_of (entry_is.Step pid pick out ∷ J) r + sum_below (made J + length made_children + 1) lowered ≤ cost (entry_is.Step pid pick out ∷ J) r top.args
    within_now = let s = lowered_sum in let m = entries_more in let w = ready.within in let p = spent.pays in omega (arith, s, m, w, p)

    entries_within : entries_of (entry_is.Step pid pick out ∷ J) r ≤ cost (entry_is.Step pid pick out ∷ J) r top.args
    entries_within = let w = within_now in omega (arith, w)

    there_now : node_of (entry_is.Step pid pick out ∷ J) r ≡ Some top
    there_now = nodes_stay (entry_is.Step pid pick out) J legal r top is

    top_own : top.root ≡ r
    top_own = grown.tops r top is at_top

    cause_now : cause (entry_is.Step pid pick out ∷ J) r ≡ failing out.answer
    cause_now = cond-true (root_of J pid.0 == r) (or_else (cause J r) (failing out.answer)) (cause J r) mine ∙ ap (λ c. or_else c (failing out.answer)) ready.going.clean

    -- a root that fails at its first step has ended
    ended_failed : (c : Cause) → failing out.answer ≡ Some c → (pid.0 ≡ r) × (root_ended (entry_is.Step pid pick out ∷ J) r ≡ true)
    ended_failed c failed =
        let f = spent.fails c failed in
        let here : pid.0 ≡ r = sym (grown.tops pid.0 me is_me f.1) ∙ of in
        let alone = elim ready.first as (λ x. ((q : ℕ) (x : Node) → node_of J q ≡ Some x → x.root ≡ r → q ≡ r) × (stack J r ≡ [])) [ inl some ↦ absurd (some (ap (last_answer J) (sym here) ∙ f.0)) | inr a ↦ a ] in
        let none : out.children ≡ [] = childless out.answer refl c failed does.waits in
        let stopped : all_stopped (entry_is.Step pid pick out ∷ J) r ≡ true = all_below_from (made (entry_is.Step pid pick out ∷ J) + 1) (stopped_in (entry_is.Step pid pick out ∷ J) r) (λ q lt. one q (node_of (entry_is.Step pid pick out ∷ J) q) refl alone.0 (omega (arith, lt, ap (λ l. length (args_in l)) none))) in
        let empty : stack (entry_is.Step pid pick out ∷ J) r ≡ [] = cond-true (root_of J pid.0 == r) _ (stack J r) mine ∙ unpushed _ (is_some (failing out.answer)) pid.0 _ out.edits (stack J r) (ap is_some failed) ∙ alone.1 in
        (here, ap (λ o. root_over o (rolled_back (entry_is.Step pid pick out ∷ J) r) (done_with (last_answer (entry_is.Step pid pick out ∷ J) r))) (cause_now ∙ failed) ∙ and_from (all_stopped (entry_is.Step pid pick out ∷ J) r) (is_empty (stack (entry_is.Step pid pick out ∷ J) r)) stopped (ap is_empty empty))
      where
        childless : (a : Answer) → out.answer ≡ a → (c : Cause) → failing a ≡ Some c → ChildrenWait a out.children → out.children ≡ []
        childless (answer_is.Wait n) e c failed w = absurd (none-some c failed)
        childless answer e c failed w = w

        one : (q : ℕ) (o : Option Node) → node_of (entry_is.Step pid pick out ∷ J) q ≡ o → ((q : ℕ) (x : Node) → node_of J q ≡ Some x → x.root ≡ r → q ≡ r) → q < made J + 1 → (not (in_tree r o) || ((q == r) || is_stopped (last_answer (entry_is.Step pid pick out ∷ J) q))) ≡ true
        one q None e only lt = refl
        one q (Some x) e only lt = elim (cases_Bool (x.root == r)) [
          | inr off ↦ or_left (not (x.root == r)) _ (ap not off)
          | inl on ↦
              let was = sym (node_same pid pick out J q (omega (arith, lt))) ∙ e in
              or_right (not (x.root == r)) _ (or_left (q == r) _ (eq-eqb q r (only q x was (eqb-true x.root r on))))
        ]

        unpushed : (how : Back) (failed : Bool) (p row : ℕ) (edits : List Edit) (below : List Undoable) → failed ≡ true → pushed how failed p row edits below ≡ below
        unpushed back_is.Nothing failed p row edits below e = refl
        unpushed other failed p row edits below e = ap (λ b. unless_failed b (record { pid = p; row = row; undo = other; edits = edits }) below) e

    spends_on : failing out.answer ≡ None → root_ended (entry_is.Step pid pick out ∷ J) r ≡ false → last_answer (entry_is.Step pid pick out ∷ J) r ≢ None → Spends (entry_is.Step pid pick out ∷ J) r top
    spends_on fine unended stepped =
        let going : Going (entry_is.Step pid pick out ∷ J) r top = record { legal = legal; quiet = quiet; is_top = there_now; at_top = at_top; unended = unended; clean = cause_now ∙ fine } in
        record {
          going = going;
          stepped = stepped;
          budget = lowered;
          each = λ q x at root. elim (le_or_lt q (made J)) [
            | inl le ↦
                let was = sym (node_same pid pick out J q le) ∙ at in
                elim (cases_eq q pid.0) [
                  | inl here ↦
                      let one : me ≡ x = same_Some me x (sym is_me ∙ ap (node_of J) (sym here) ∙ was) in
                      subst (λ k. At (entry_is.Step pid pick out ∷ J) k x (lowered k)) (sym here) (subst (λ n. At (entry_is.Step pid pick out ∷ J) pid.0 n (lowered pid.0)) one (subst (At (entry_is.Step pid pick out ∷ J) pid.0 me) (sym lowered_me) (spent.own fine)))
                  | inr differs ↦
                      let begun : last_answer J r ≢ None = elim ready.first as (λ y. last_answer J r ≢ None) [ inl some ↦ some | inr alone ↦ absurd (differs (alone.0 q x was root ∙ sym (alone.0 pid.0 me is_me of))) ] in
                      subst (At (entry_is.Step pid pick out ∷ J) q x) (sym (lowered_old q le differs)) (priced.stays (entry_is.Step pid pick out) J legal r top ready.going going (λ p y py pr. (ready.budget p, ready.each p y py pr)) q x was root differs begun (ready.budget q) (ready.each q x was root))
                ]
            | inr lt ↦
                let c = new_child pid pick out J me is_me q lt x at in
                let e : made J + (q - made J - 1) + 1 ≡ q = omega (arith, lt) in
                let amount : lowered q ≡ price c.0 = lowered_new q lt ∙ ap (price_of price) c.1 in
                subst (At (entry_is.Step pid pick out ∷ J) q x) (sym amount) (subst (λ n. At (entry_is.Step pid pick out ∷ J) q n (price c.0)) (sym c.2) (subst (λ k. At (entry_is.Step pid pick out ∷ J) k (child_of pid.0 me c.0) (price c.0)) e (spent.children fine (q - made J - 1) c.0 c.1)))
          ];
          none = λ q lt. lowered_new q (omega (arith, lt)) ∙ ap (price_of price) (slice_get_past made_children (q - made J - 1) (omega (arith, lt)));
          within = within_now;
        }

    by_answer : pid.0 ≡ r → failing out.answer ≡ None → (a : Answer) → out.answer ≡ a → IsStepAnswer a → Paid (entry_is.Step pid pick out ∷ J) r top
    by_answer here fine a e sound =
        let last : last_answer (entry_is.Step pid pick out ∷ J) r ≡ Some a = ap (last_answer (entry_is.Step pid pick out ∷ J)) (sym here) ∙ answer_now pid pick out J ∙ ap Some e in
        let over_is : (b : Bool) → is_some (done_with (Some a)) ≡ b → root_ended (entry_is.Step pid pick out ∷ J) r ≡ b = λ b h. ended_by (entry_is.Step pid pick out ∷ J) r (cause_now ∙ fine) ∙ ap (λ o. is_some (done_with o)) last ∙ h in
        let some : last_answer (entry_is.Step pid pick out ∷ J) r ≢ None = λ none. none-some a (sym none ∙ last) in
        by a e sound over_is some
      where
        by : (a : Answer) → out.answer ≡ a → IsStepAnswer a → ((b : Bool) → is_some (done_with (Some a)) ≡ b → root_ended (entry_is.Step pid pick out ∷ J) r ≡ b) → last_answer (entry_is.Step pid pick out ∷ J) r ≢ None → Paid (entry_is.Step pid pick out ∷ J) r top
        by (answer_is.Done told) e sound over_is some = over (over_is true refl) some entries_within
        by (answer_is.Fail c) e sound over_is some = absurd (none-some c (sym fine ∙ ap failing e))
        by answer_is.Undone e sound over_is some = absurd sound
        by answer e sound over_is some = spends (spends_on fine (over_is false refl) some)

    by_failing : (o : Option Cause) → failing out.answer ≡ o → Paid (entry_is.Step pid pick out ∷ J) r top
    by_failing (Some c) failed =
        let f = ended_failed c failed in
        over f.1 (λ none. none-some out.answer (sym none ∙ ap (last_answer (entry_is.Step pid pick out ∷ J)) (sym f.0) ∙ answer_now pid pick out J)) entries_within
    by_failing None fine = elim (cases_eq pid.0 r) [
      | inl here ↦ by_answer here fine out.answer refl does.sound
      | inr differs ↦
          let last = other_answer pid pick out J r (λ e. differs (sym e)) in
          let begun : last_answer J r ≢ None = elim ready.first as (λ y. last_answer J r ≢ None) [ inl some ↦ some | inr alone ↦ absurd (differs (alone.0 pid.0 me is_me of)) ] in
          spends (spends_on fine (ended_by (entry_is.Step pid pick out ∷ J) r (cause_now ∙ fine) ∙ ap (λ o. is_some (done_with o)) last ∙ sym (ended_by J r ready.going.clean) ∙ ready.going.unended) (λ none. begun (sym last ∙ none)))
    ]

    pub step_paid : Paid (entry_is.Step pid pick out ∷ J) r top
    step_paid = by_failing (failing out.answer) refl

  -- a report to a procedure of the tree
  module _ (priced : ArePriced At Fresh price) (call : Pid) (told : Told) (J : Past) (legal : IsLegal (entry_is.Report call told ∷ J)) (r : ℕ) (top : Node) (quiet : IsQuiet (entry_is.Report call told ∷ J) r) (me : Node) (is_me : node_of J call.0 ≡ Some me) (of : me.root ≡ r) (s : Spends J r top) where
    reported : (rest : ℕ) × (1 + rest ≤ s.budget call.0) × At (entry_is.Report call told ∷ J) call.0 me rest
    reported = priced.reports call told J legal r top s.going quiet me is_me of (s.budget call.0) (s.each call.0 me is_me of)

    less : ℕ → ℕ
    less q = cond (q == call.0) reported.0 (s.budget q)

    less_me : less call.0 ≡ reported.0
    unfolding less
    less_me = cond-true (call.0 == call.0) reported.0 (s.budget call.0) (eq-eqb call.0 call.0 refl)

    less_other : (q : ℕ) → q ≢ call.0 → less q ≡ s.budget q
    unfolding less
    less_other q differs = cond-false (q == call.0) reported.0 (s.budget q) (ne_eqb q call.0 differs)

    called_few : call.0 ≤ made J
    called_few = is_there J (grown_all J legal.0) call.0 me is_me

    going_told : Going (entry_is.Report call told ∷ J) r top
    going_told = record { legal = legal; quiet = quiet; is_top = s.going.is_top; at_top = s.going.at_top; unended = s.going.unended; clean = s.going.clean }

    pub report_paid : Paid (entry_is.Report call told ∷ J) r top
    report_paid = spends (record {
      going = going_told;
      stepped = s.stepped;
      budget = less;
      each = λ q x at root. elim (cases_eq q call.0) [
        | inl here ↦
            let one : me ≡ x = same_Some me x (sym is_me ∙ ap (node_of J) (sym here) ∙ at) in
            subst (λ k. At (entry_is.Report call told ∷ J) k x (less k)) (sym here) (subst (λ n. At (entry_is.Report call told ∷ J) call.0 n (less call.0)) one (subst (At (entry_is.Report call told ∷ J) call.0 me) (sym less_me) reported.2))
        | inr differs ↦ subst (At (entry_is.Report call told ∷ J) q x) (sym (less_other q differs)) (priced.stays (entry_is.Report call told) J legal r top s.going going_told (λ p y py pr. (s.budget p, s.each p y py pr)) q x at root differs s.stepped (s.budget q) (s.each q x at root))
      ];
      none = λ q lt. less_other q (λ e. let few = called_few in omega (arith, lt, few, e)) ∙ s.none q lt;
      within =
          let few = called_few in
          let swap = sum_swap (made J + 1) less s.budget call.0 (omega (arith, few)) (λ q lt differs. less_other q differs) in
          let here = less_me in
          let pays = reported.1 in
          let w = s.within in
          let cost_same = priced.costs (entry_is.Report call told) J legal r top s.going.is_top s.stepped in
          let more = one_if_true (root_of J call.0 == r) (entries_of J r) (eq-eqb (root_of J call.0) r (ap root_in is_me ∙ of)) in
          omega (arith, swap, here, pays, w, cost_same, more);
    })

  -- a new root
  new_lone : ArePriced At Fresh price → (entry : Entry) (J : Past) (legal : IsLegal (entry ∷ J)) → IsRooted J (entry ∷ J) → (r : ℕ) (top : Node) → node_of J r ≡ None → node_of (entry ∷ J) r ≡ Some top → top.above ≡ [] → IsQuiet (entry ∷ J) r → entries_of (entry ∷ J) r ≡ entries_of J r + 1 → cause (entry ∷ J) r ≡ cause J r → stack (entry ∷ J) r ≡ stack J r → Paid (entry ∷ J) r top
  new_lone priced entry J legal rooted r top none is at_top quiet entries causes stacks =
      let absent = absent_all J legal.0 r none in
      let last : last_answer (entry ∷ J) r ≡ None = rooted.last r ∙ (grown_all J legal.0).unmade r none in
      let clean = causes ∙ absent.caused in
      lone (record {
        going = record { legal = legal; quiet = quiet; is_top = is; at_top = at_top; unended = ended_by (entry ∷ J) r clean ∙ ap (λ o. is_some (done_with o)) last; clean = clean };
        unstepped = last;
        one = entries ∙ ap (λ n. n + 1) absent.entries;
        fresh = priced.new entry J legal r top none is at_top;
        only = λ q x at root. elim (old_or_new J (entry ∷ J) rooted (grown_all J legal.0) q x at) [
          | inl was ↦ absurd (of_tree J legal.0 q x was r root none)
          | inr new ↦ sym (ap (λ (n : Node). n.root) new.2) ∙ root
        ];
        stacked = stacks ∙ absent.stacked;
      })

  only_one : ℕ → ℕ → ℕ → ℕ
  only_one p amount q = cond (q == p) amount 0

  one_here : (p amount : ℕ) → only_one p amount p ≡ amount
  unfolding only_one
  one_here p amount = cond-true (p == p) amount 0 (eq-eqb p p refl)

  none_there : (p amount q : ℕ) → q ≢ p → only_one p amount q ≡ 0
  unfolding only_one
  none_there p amount q differs = cond-false (q == p) amount 0 (ne_eqb q p differs)

  nothing_sums : (n : ℕ) → sum_below n (λ q. 0) ≡ 0
  nothing_sums zero = refl
  nothing_sums (suc n) = let on = nothing_sums n in omega (arith, on)

  lone_ready : ArePriced At Fresh price → (pid : Pid) (pick : Option Server) (out : StepOut) (J : Past) → IsLegal (entry_is.Step pid pick out ∷ J) → (top : Node) → Lone J pid.0 top → Ready pid pick out J pid.0 top
  lone_ready priced pid pick out J legal top l =
      let b = priced.begins pid pick out J legal top l.going l.unstepped l.fresh in
      let few = is_there J (grown_all J legal.0) pid.0 top l.going.is_top in
      record {
        going = l.going;
        first = inr (l.only, l.stacked);
        budget = only_one pid.0 b.0;
        each = λ q x at root.
            let here = l.only q x at root in
            let one : top ≡ x = same_Some top x (sym l.going.is_top ∙ ap (node_of J) (sym here) ∙ at) in
            subst (λ k. At J k x (only_one pid.0 b.0 k)) (sym here) (subst (λ n. At J pid.0 n (only_one pid.0 b.0 pid.0)) one (subst (At J pid.0 top) (sym (one_here pid.0 b.0)) b.1));
        none = λ q lt. none_there pid.0 b.0 q (λ e. omega (arith, lt, few, e));
        within =
            let swap = sum_swap (made J + 1) (only_one pid.0 b.0) (λ q. 0) pid.0 (omega (arith, few)) (λ q lt differs. none_there pid.0 b.0 q differs) in
            let here = one_here pid.0 b.0 in
            let zeros = nothing_sums (made J + 1) in
            let one = l.one in
            let enough = b.2 in
            omega (arith, swap, here, zeros, one, enough);
      }

  spends_ready : ArePriced At Fresh price → (pid : Pid) (pick : Option Server) (out : StepOut) (J : Past) → IsLegal (entry_is.Step pid pick out ∷ J) → (r : ℕ) (top : Node) → Spends J r top → Ready pid pick out J r top
  spends_ready priced pid pick out J legal r top s = record {
    going = s.going;
    first = inl s.stepped;
    budget = s.budget;
    each = s.each;
    none = s.none;
    within = let w = s.within in let same = priced.costs (entry_is.Step pid pick out) J legal r top s.going.is_top s.stepped in omega (arith, w, same);
  }

  -- whose tree has ended takes no step
  over_steps : (pid : Pid) (pick : Option Server) (out : StepOut) (J : Past) → IsLegal (entry_is.Step pid pick out ∷ J) → (r : ℕ) (top : Node) → node_of J r ≡ Some top → top.above ≡ [] → root_ended J r ≡ true → r ≡ root_of J pid.0 → ⊥
  over_steps pid pick out J legal r top is at_top ended mine =
      let g = grown_all J legal.0 in
      let st = step_of pid pick out J g legal in
      let runs = ready_stops J pid.0 st.node (last_answer J pid.0) st.ready in
      let root : st.node.root ≡ r = sym (ap root_in st.node_is) ∙ sym mine in
      elim (cases_eq pid.0 r) [
        | inr differs ↦ true≢false (sym (over_stopped J legal.0 r top is at_top ended pid.0 st.node st.node_is root differs) ∙ runs)
        | inl here ↦
            let one : st.node ≡ top = same_Some st.node top (sym st.node_is ∙ ap (node_of J) here ∙ is) in
            let clean : cause J r ≡ None = ap (cause J) (sym here) ∙ st.uncaused (ap (λ (n : Node). is_top n.above) one ∙ ap is_top at_top) in
            true≢false (sym (done_stops (last_answer J r) (sym (ended_by J r clean) ∙ ended)) ∙ ap (λ k. is_stopped (last_answer J k)) (sym here) ∙ runs)
      ]

  own_step : ArePriced At Fresh price → (pid : Pid) (pick : Option Server) (out : StepOut) (J : Past) (legal : IsLegal (entry_is.Step pid pick out ∷ J)) (r : ℕ) (top : Node) → node_of J r ≡ Some top → top.above ≡ [] → IsQuiet (entry_is.Step pid pick out ∷ J) r → r ≡ root_of J pid.0 → Paid J r top → Paid (entry_is.Step pid pick out ∷ J) r top
  own_step priced pid pick out J legal r top is at_top quiet mine (over ended stepped within) = absurd (over_steps pid pick out J legal r top is at_top ended mine)
  own_step priced pid pick out J legal r top is at_top quiet mine (lone l) =
      let me = step_root pid pick out J legal in
      let root : me.0.root ≡ r = sym (ap root_in me.1) ∙ sym mine in
      let here : pid.0 ≡ r = l.only pid.0 me.0 me.1 root in
      step_paid priced pid pick out J legal r top is at_top quiet me.0 me.1 root (subst (λ k. Ready pid pick out J k top) here (lone_ready priced pid pick out J legal top (subst (λ k. Lone J k top) (sym here) l)))
  own_step priced pid pick out J legal r top is at_top quiet mine (spends s) =
      let me = step_root pid pick out J legal in
      step_paid priced pid pick out J legal r top is at_top quiet me.0 me.1 (sym (ap root_in me.1) ∙ sym mine) (spends_ready priced pid pick out J legal r top s)

  -- a tree that has ended, or whose root has no step, gets no report
  over_reports : (call : Pid) (told : Told) (J : Past) (legal : IsLegal (entry_is.Report call told ∷ J)) (r : ℕ) (top : Node) → node_of J r ≡ Some top → top.above ≡ [] → root_ended J r ≡ true → r ≡ root_of J call.0 → ⊥
  over_reports call told J legal r top is at_top over_is mine =
      let me = call_root call told J legal in
      let root : me.0.root ≡ r = sym (ap root_in me.1) ∙ sym mine in
      let not_ended : ended J call.0 ≡ false = legal.1.1.0.2 in
      elim (cases_eq call.0 r) [
        | inl here ↦ true≢false (sym (ap (λ n. ended_node J r n) is ∙ ap (λ a. cond (is_top a) (root_ended J r) (is_stopped (last_answer J r))) at_top ∙ over_is) ∙ ap (ended J) (sym here) ∙ not_ended)
        | inr differs ↦
            let stops = over_stopped J legal.0 r top is at_top over_is call.0 me.0 me.1 root differs in
            by me.0 me.1 root me.0.above refl differs stops not_ended
      ]
    where
      by : (x : Node) → node_of J call.0 ≡ Some x → x.root ≡ r → (above : List ℕ) → x.above ≡ above → call.0 ≢ r → is_stopped (last_answer J call.0) ≡ true → ended J call.0 ≡ false → ⊥
      by x at root [] a differs stops not_ended = differs (sym ((grown_all J legal.0).tops call.0 x at a) ∙ root)
      by x at root (u ∷ up) a differs stops not_ended = true≢false (sym (ap (λ n. ended_node J call.0 n) at ∙ ap (λ l. cond (is_top l) (root_ended J call.0) (is_stopped (last_answer J call.0))) a ∙ stops) ∙ not_ended)

  lone_reports : (call : Pid) (told : Told) (J : Past) (legal : IsLegal (entry_is.Report call told ∷ J)) (r : ℕ) (top : Node) → Lone J r top → r ≡ root_of J call.0 → ⊥
  lone_reports call told J legal r top l mine =
      let g = grown_all J legal.0 in
      let verb = some_of _ legal.1.1.0.0 in
      let v = g.verbs call.0 verb.0 verb.1 in
      let here : call.0 ≡ r = l.only call.0 v.0 v.1 (sym (ap root_in v.1) ∙ sym mine) in
      let none = subst (CallerAt verb.0 (verb_of J call.0)) (ap (last_answer J) here ∙ l.unstepped) (g.calls call.0 v.0 v.1 verb.0 v.2) in
      none-some verb.0 (sym none ∙ verb.1)

  own_report : ArePriced At Fresh price → (call : Pid) (told : Told) (J : Past) (legal : IsLegal (entry_is.Report call told ∷ J)) (r : ℕ) (top : Node) → node_of J r ≡ Some top → top.above ≡ [] → IsQuiet (entry_is.Report call told ∷ J) r → r ≡ root_of J call.0 → Paid J r top → Paid (entry_is.Report call told ∷ J) r top
  own_report priced call told J legal r top is at_top quiet mine (over ended stepped within) = absurd (over_reports call told J legal r top is at_top ended mine)
  own_report priced call told J legal r top is at_top quiet mine (lone l) = absurd (lone_reports call told J legal r top l mine)
  own_report priced call told J legal r top is at_top quiet mine (spends s) =
      let me = call_root call told J legal in
      report_paid priced call told J legal r top quiet me.0 me.1 (sym (ap root_in me.1) ∙ sym mine) s

  undo_caused : (pid : Pid) (row : ℕ) (out : StepOut) (J : Past) (legal : IsLegal (entry_is.Undo pid row out ∷ J)) → cause J (root_of J pid.0) ≡ None → ⊥
  undo_caused pid row out J legal none =
      let latest = legal.1.1.0 in
      let parts = and_parts (is_top latest.0.above) (is_some (cause J (root_of J pid.0)) && (all_stopped J (root_of J pid.0) && not (is_empty (stack J (root_of J pid.0))))) latest.2 in
      let more = and_parts (is_some (cause J (root_of J pid.0))) (all_stopped J (root_of J pid.0) && not (is_empty (stack J (root_of J pid.0)))) parts.1 in
      true≢false (sym more.0 ∙ ap is_some none)

  -- what nothing disturbs isn't undone
  own_undo : (pid : Pid) (row : ℕ) (out : StepOut) (J : Past) (legal : IsLegal (entry_is.Undo pid row out ∷ J)) (r : ℕ) (top : Node) → r ≡ root_of J pid.0 → Paid J r top → ⊥
  own_undo pid row out J legal r top mine (over ended stepped within) =
      let found = legal.1.1.0 in
      none-some found.3 (ap (λ b. latest (cond b [] (stack J (root_of J pid.0)))) (sym (ap (root_ended J) (sym mine) ∙ ended)) ∙ found.4)
  own_undo pid row out J legal r top mine (lone l) = undo_caused pid row out J legal (ap (cause J) (sym mine) ∙ l.going.clean)
  own_undo pid row out J legal r top mine (spends s) = undo_caused pid row out J legal (ap (cause J) (sym mine) ∙ s.going.clean)

  own_abort : (pid : Pid) (J : Past) (legal : IsLegal (entry_is.Abort pid ∷ J)) (r : ℕ) → r ≡ root_of J pid.0 → pid.0 ≢ r → ⊥
  own_abort pid J legal r mine other = by (node_of J pid.0) refl legal.1.1.0.0
    where
      by : (o : Option Node) → node_of J pid.0 ≡ o → is_root_in (node_of J pid.0) ≡ true → ⊥
      by None e h = false≢true (sym (ap is_root_in e) ∙ h)
      by (Some x) e h = other (sym (at_top J (grown_all J legal.0) pid.0 x e (sym (ap is_root_in e) ∙ h)) ∙ sym (ap root_in e) ∙ sym mine)

  own_entry : ArePriced At Fresh price → (entry : Entry) (J : Past) (legal : IsLegal (entry ∷ J)) (r : ℕ) (top : Node) → node_of J r ≡ Some top → top.above ≡ [] → IsQuiet (entry ∷ J) r → r ≡ tree_of J entry → Paid J r top → Paid (entry ∷ J) r top
  own_entry priced (entry_is.Submit nonce request) J legal r top is at_top quiet mine p = let few = is_there J (grown_all J legal.0) r top is in absurd (omega (arith, few, mine))
  own_entry priced (entry_is.Step pid pick out) J legal r top is at_top quiet mine p = own_step priced pid pick out J legal r top is at_top quiet mine p
  own_entry priced (entry_is.Undo pid row out) J legal r top is at_top quiet mine p = absurd (own_undo pid row out J legal r top mine p)
  own_entry priced (entry_is.Report call told) J legal r top is at_top quiet mine p = own_report priced call told J legal r top is at_top quiet mine p
  own_entry priced (entry_is.Down server) J legal r top is at_top quiet mine p = let few = is_there J (grown_all J legal.0) r top is in absurd (omega (arith, few, mine))
  own_entry priced (entry_is.Abort pid) J legal r top is at_top quiet mine p = absurd (own_abort pid J legal r mine quiet.1)
  own_entry priced (entry_is.Base part) J legal r top is at_top quiet mine p = absurd (none-some top (sym (no_node part J legal.1.0 r) ∙ is))
  own_entry priced entry J legal r top is at_top quiet mine p = let up = (made_up_to J (made_all J legal.0) r top is).0 in absurd (omega (arith, up, mine))

  new_entry : ArePriced At Fresh price → (entry : Entry) (J : Past) (legal : IsLegal (entry ∷ J)) (r : ℕ) (top : Node) → node_of J r ≡ None → node_of (entry ∷ J) r ≡ Some top → top.above ≡ [] → IsQuiet (entry ∷ J) r → Paid (entry ∷ J) r top
  new_entry priced (entry_is.Submit nonce request) J legal r top none is at_top quiet =
      new_lone priced (entry_is.Submit nonce request) J legal (submit_rooted nonce request J (grown_all J legal.0)) r top none is at_top quiet
      (one_if_true (r == made J + 1) (entries_of J r) (elim (cases_Bool (r == made J + 1)) [ inl on ↦ on | inr off ↦ absurd (none-some top (sym none ∙ sym (cond-false (r == made J + 1) _ (node_of J r) off) ∙ is)) ])) refl refl
  new_entry priced (entry_is.Step pid pick out) J legal r top none is at_top quiet = absurd (no_root_by_step pid pick out J legal r top none is at_top)
  new_entry priced (entry_is.Undo pid row out) J legal r top none is at_top quiet =
      let rooted = undo_rooted pid row out J (grown_all J legal.0) in
      let root = undo_root pid row out J legal in
      let off : (root_of J pid.0 == r) ≡ false = ne_eqb (root_of J pid.0) r (λ e. none-some root.0 (sym none ∙ ap (node_of J) (sym e) ∙ root.1)) in
      let few = is_there (entry_is.Undo pid row out ∷ J) (grown_all (entry_is.Undo pid row out ∷ J) legal) r top is in
      let lt : made J < r = elim (le_or_lt r (made J)) [ inr lt ↦ lt | inl le ↦ absurd (none-some top (sym none ∙ sym (rooted.old r le) ∙ is)) ] in
      new_lone priced (entry_is.Undo pid row out) J legal rooted r top none is at_top quiet
      (one_if_true ((root_of J pid.0 == r) || makes J out.followers r) (entries_of J r) (or_right (root_of J pid.0 == r) _ (and_from (nat_lt (made J) r) (nat_le r (made J + length (args_in out.followers))) (lt-ltb (made J) r lt) (le-leb r (made J + length (args_in out.followers)) few)))) refl
      (cond-false (root_of J pid.0 == r) _ (stack J r) off)
  new_entry priced (entry_is.Down server) J legal r top none is at_top quiet =
      new_lone priced (entry_is.Down server) J legal (down_rooted server J (grown_all J legal.0)) r top none is at_top quiet
      (one_if_true (r == made J + 1) (entries_of J r) (elim (cases_Bool (r == made J + 1)) [ inl on ↦ on | inr off ↦ absurd (none-some top (sym none ∙ sym (cond-false (r == made J + 1) _ (node_of J r) off) ∙ is)) ])) refl refl
  new_entry priced (entry_is.Base part) J legal r top none is at_top quiet = absurd (none-some top is)
  new_entry priced entry J legal r top none is at_top quiet = absurd (none-some top (sym none ∙ is))

  paid_on : ArePriced At Fresh price → (entry : Entry) (J : Past) (legal : IsLegal (entry ∷ J)) (r : ℕ) (top : Node) → node_of (entry ∷ J) r ≡ Some top → top.above ≡ [] → IsQuiet (entry ∷ J) r → (node_of J r ≡ Some top → Paid J r top) → Paid (entry ∷ J) r top
  paid_on priced entry J legal r top is at_top quiet before = by (node_of J r) refl
    where
      by : (o : Option Node) → node_of J r ≡ o → Paid (entry ∷ J) r top
      by None e = new_entry priced entry J legal r top e is at_top quiet
      by (Some x) e =
          let was : node_of J r ≡ Some top = e ∙ sym (nodes_stay entry J legal r x e) ∙ is in
          elim (cases_eq r (tree_of J entry)) [
            | inl mine ↦ own_entry priced entry J legal r top was at_top quiet mine (before was)
            | inr other ↦ other_paid priced entry J legal r top was at_top quiet other (before was)
          ]

  pub paid_all : ArePriced At Fresh price → (J : Past) → IsLegal J → (r : ℕ) (top : Node) → node_of J r ≡ Some top → top.above ≡ [] → IsQuiet J r → Paid J r top
  paid_all priced [] legal r top is at_top quiet = absurd (none-some top is)
  paid_all priced (entry ∷ J) legal r top is at_top quiet = paid_on priced entry J legal r top is at_top quiet (λ was. paid_all priced J legal.0 r top was at_top (quiet_before entry J legal r quiet))

  -- the entries of a tree that nothing disturbs are within its cost
  pub all_within : ArePriced At Fresh price → (J : Past) → IsLegal J → (r : ℕ) (top : Node) → node_of J r ≡ Some top → top.above ≡ [] → IsQuiet J r → entries_of J r ≤ cost J r top.args
  all_within priced J legal r top is at_top quiet = by (paid_all priced J legal r top is at_top quiet)
    where
      by : Paid J r top → entries_of J r ≤ cost J r top.args
      by (over ended stepped within) = within
      by (lone l) = let one = l.one in let enough = priced.one J r top l.fresh in omega (arith, one, enough)
      by (spends s) = let w = s.within in omega (arith, w)
