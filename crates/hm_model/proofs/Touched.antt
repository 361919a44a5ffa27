-- Who may come to go on, and who may end, by a step.
use Rattle.std.proofs.Common.{Bool, None, Option, Some, [], ap, arith, false, if◌then◌else◌, inl, inr, is_some, length, not, refl, subst, sym, true, ℕ, ◌&&◌, ◌+◌, ◌==◌, ◌∙◌, ◌∷◌, ◌≡◌, ◌≢◌, ◌⊎◌}
use Rattle.std.proofs.lemmas.Bool.{and_parts, cases_Bool, cases_eq, eq-eqb, ne_eqb, true≢false}
use Rattle.std.proofs.lemmas.Option.{same_Some}
use Rattle.hm_data.specs.declared.answer.Cause.{Cause}
use Rattle.hm_data.specs.declared.entry.Entry.TheVariants as entry_is
use Rattle.hm_data.specs.declared.record.Phase.{Phase}
use Rattle.hm_data.specs.declared.record.Phase.TheVariants as phase_is
use Rattle.hm_data.specs.declared.step.StepOut.{StepOut}
use Rattle.hm_names.specs.Server.{Server}
use Rattle.hm_names.specs.declared.pid.Pid.{Pid}
use Rattle.hm_model.specs.Answers.{is_stop, is_stopped, last_answer}
use Rattle.hm_model.specs.Apart.{IsSameTree}
use Rattle.hm_model.specs.Counts.{one_if}
use Rattle.hm_model.specs.Inputs.{undoes}
use Rattle.hm_model.specs.Journal.{Past}
use Rattle.hm_model.specs.Phase.{all_stopped, cause, children_ended, ended, ended_node, in_tree, is_parent, own_phase, phase, phase_table, rolled_back, root_ended, stopped_in}
use Rattle.hm_model.specs.Rest.{IsAnswered, MayStep, MayUndo}
use Rattle.hm_model.specs.Rules.{IsLegal}
use Rattle.hm_model.specs.Touched.{IsTouched}
use Rattle.hm_model.specs.Tree.{Node, args_in, is_top, made, node_of, root_in, root_of}
use Rattle.hm_model.specs.Undo.{is_empty, stack}
use Rattle.hm_model.proofs.Apart.{others_stay}
use Rattle.hm_model.proofs.Forest.{forest_all, rooted_all, top_is_own}
use Rattle.hm_model.proofs.Grown.{grown_all, made_up_to, nodes_stay, not_stepped}
use Rattle.hm_model.proofs.LegalSteps.{ready_stops}
use Rattle.hm_model.proofs.Trees.{all_below_at, grown_all as trees_all, some_of, step_of}
use Rattle.hm_model.proofs.Waiting.{children_change, children_tell}
use Rattle.hm_model.proofs.Small.{from_test, top_is}

-- the phases in which a step may be made
abbrev Runs : Phase → Type 0
Runs phase = (phase ≡ phase_is.Runnable) ⊎ (phase ≡ phase_is.Awaiting)

-- a descendant that runs does so by its own last step
runs_own : (cause : Option Cause) (back : Bool) (own : Phase) → Runs (phase_table cause back false own) → phase_table cause back false own ≡ own
runs_own None back own h = refl
runs_own (Some c) true own h = elim h [ inl e ↦ cc | inr e ↦ cc ]
runs_own (Some c) false own h = refl

-- in a tree that isn't rolled back a descendant's phase is its own
own_there : (cause : Option Cause) (back : Bool) (own : Phase) → (cause ≡ None) ⊎ (back ≡ false) → phase_table cause back false own ≡ own
own_there None back own h = refl
own_there (Some c) true own h = elim h [ inl e ↦ cc | inr e ↦ cc ]
own_there (Some c) false own h = refl

module _ (pid : Pid) (pick : Option Server) (out : StepOut) (before : Past) (legal : IsLegal (entry_is.Step pid pick out ∷ before)) (me : Node) (is_me : node_of before pid.0 ≡ Some me) where
  abbrev after : Past
  after = entry_is.Step pid pick out ∷ before

  own_root : root_of before pid.0 ≡ me.root
  own_root = ap root_in is_me

  -- other trees
  apart : (s : ℕ) (top : Node) → node_of before s ≡ Some top → top.above ≡ [] → s ≢ me.root → IsSameTree before after s
  apart s top there at_top other = others_stay (entry_is.Step pid pick out) before legal s top there at_top (λ e. other (e ∙ own_root))

  -- its tree isn't rolled back
  tree_open : (cause before me.root ≡ None) ⊎ (rolled_back before me.root ≡ false)
  tree_open =
      let step = step_of pid pick out before (trees_all before legal.0) legal in
      let same : step.node ≡ me = same_Some step.node me (sym step.node_is ∙ is_me) in
      let ran = ready_stops before pid.0 step.node (last_answer before pid.0) step.ready in
      elim (cases_Bool (is_top me.above)) [
        | inl top ↦
            let own = top_is_own before (forest_all before legal.0) pid.0 me is_me (top_is me.above top) in
            inl (ap (cause before) own ∙ step.uncaused (ap (λ (n : Node). is_top n.above) same ∙ top))
        | inr below ↦ inr (by (rolled_back before me.root) refl below ran)
      ]
    where
      by : (b : Bool) → rolled_back before me.root ≡ b → is_top me.above ≡ false → is_stopped (last_answer before pid.0) ≡ false → b ≡ false
      by false e below ran = refl
      by true e below ran =
          let all = (and_parts (all_stopped before me.root) (is_empty (stack before me.root)) e).0 in
          let few = (made_up_to before (grown_all before legal.0) pid.0 me is_me).1 in
          let root = rooted_all before legal.0 pid.0 me is_me in
          let differs : pid.0 ≢ me.root = λ same. (let own = same_Some me root.root (sym is_me ∙ ap (node_of before) same ∙ root.there) in true≢false (sym (ap (λ n. is_top n.above) own ∙ ap is_top root.at_top) ∙ below)) in
          absurd (true≢false (sym (from_test (in_tree me.root (node_of before pid.0)) (pid.0 == me.root) (is_stopped (last_answer before pid.0)) (ap (in_tree me.root) is_me ∙ eq-eqb me.root me.root refl) (ne_eqb pid.0 me.root differs) (all_below_at (made before + 1) (stopped_in before me.root) pid.0 all (omega (arith, few)))) ∙ ran))

  module _ (q : ℕ) (x : Node) (there : node_of before q ≡ Some x) (not_pid : q ≢ pid.0) (not_parent : is_parent q me.above ≡ false) (not_root : q ≢ me.root) where
    there_after : node_of after q ≡ Some x
    there_after = nodes_stay (entry_is.Step pid pick out) before legal q x there

    same_children : children_ended after q ≡ children_ended before q
    same_children =
        let change = children_change (entry_is.Step pid pick out) before legal q in
        let no_end : one_if ((elim (node_of before pid.0) as (λ n. Bool) [ None ↦ false | Some n ↦ is_parent q n.above ]) && is_stop out.answer) ≡ 0 = ap (λ o. one_if ((elim o as (λ n. Bool) [ None ↦ false | Some n ↦ is_parent q n.above ]) && is_stop out.answer)) is_me ∙ ap (λ b. one_if (b && is_stop out.answer)) not_parent in
        let no_more : (if pid.0 == q then length (args_in out.children) else 0) ≡ 0 = ap (λ b. if b then length (args_in out.children) else 0) (ne_eqb pid.0 q (λ e. not_pid (sym e))) in
        children_tell after q ∙ ap (λ n. n == 0) (counted change no_end no_more) ∙ sym (children_tell before q)
      where
        counted : {a b c d : ℕ} → a + b ≡ c + d → b ≡ 0 → d ≡ 0 → a ≡ c
        counted sum none more = omega (arith, sum, none, more)

    -- who runs now ran before
    ran_before : (p : Phase) → Runs p → phase after q x ≡ p → phase before q x ≡ p
    ran_before p runs e = elim (cases_eq x.root me.root) [
      | inr other ↦
          let root = rooted_all before legal.0 q x there in
          sym ((apart x.root root.root root.there root.at_top other).phases q x there refl) ∙ e
      | inl of ↦ elim (cases_Bool (is_top x.above)) [
        | inl top ↦ absurd (not_root (sym (top_is_own before (forest_all before legal.0) q x there (top_is x.above top)) ∙ of))
        | inr below ↦
            let now : phase after q x ≡ phase_table (cause after x.root) (rolled_back after x.root) false (own_phase (last_answer after q) (children_ended after q)) = ap (λ b. phase_table (cause after x.root) (rolled_back after x.root) b (own_phase (last_answer after q) (children_ended after q))) below in
            let own : own_phase (last_answer after q) (children_ended after q) ≡ p = sym (runs_own (cause after x.root) (rolled_back after x.root) (own_phase (last_answer after q) (children_ended after q)) (subst Runs (sym e ∙ now) runs)) ∙ sym now ∙ e in
            ap (λ b. phase_table (cause before x.root) (rolled_back before x.root) b (own_phase (last_answer before q) (children_ended before q))) below
            ∙ ap (λ r. phase_table (cause before r) (rolled_back before r) false (own_phase (last_answer before q) (children_ended before q))) of
            ∙ own_there (cause before me.root) (rolled_back before me.root) (own_phase (last_answer before q) (children_ended before q)) tree_open
            ∙ ap (λ l. own_phase l (children_ended before q)) (sym (not_stepped pid pick out before q not_pid))
            ∙ ap (own_phase (last_answer after q)) (sym same_children)
            ∙ own
      ]
    ]

    stepped_before : MayStep after q → MayStep before q
    stepped_before may =
        let same : may.0 ≡ x = same_Some may.0 x (sym may.1 ∙ there_after) in (
          x,
          there,
          elim may.2 [
            | inl runs ↦ inl (ran_before phase_is.Runnable (inl refl) (ap (phase after q) (sym same) ∙ runs))
            | inr waits ↦ inr (ran_before phase_is.Awaiting (inr refl) (ap (phase after q) (sym same) ∙ waits.0), subst (IsAnswered before q) same waits.1)
          ],
        )

    undone_before : MayUndo after q → MayUndo before q
    undone_before may =
        let same : may.0 ≡ x = same_Some may.0 x (sym may.1 ∙ there_after) in
        let now : undoes after q x ≡ true = ap (undoes after q) (sym same) ∙ may.2 in
        let top = top_is x.above (and_parts (is_top x.above) (is_some (cause after q) && (all_stopped after q && not (is_empty (stack after q)))) now).0 in
        let tree = apart q x there top not_root in (
          x,
          there,
          ap (λ c. is_top x.above && (is_some c && (all_stopped before q && not (is_empty (stack before q))))) (sym tree.cause_is)
              ∙ ap (λ b. is_top x.above && (is_some (cause after q) && (b && not (is_empty (stack before q))))) (sym tree.stopped)
              ∙ ap (λ l. is_top x.above && (is_some (cause after q) && (all_stopped after q && not (is_empty l)))) (sym tree.stack_is)
              ∙ now,
        )

  -- who is touched, or not
  touched : (q : ℕ) → IsTouched pid.0 me q ⊎ ((q ≢ pid.0) × (is_parent q me.above ≡ false) × (q ≢ me.root))
  touched q = elim (cases_eq q pid.0) [
    | inl own ↦ inl (inl own)
    | inr differs ↦ elim (cases_Bool (is_parent q me.above)) [
      | inl parent ↦ inl (inr (inl parent))
      | inr other ↦ elim (cases_eq q me.root) [
        | inl root ↦ inl (inr (inr root))
        | inr apart ↦ inr (differs, other, apart)
      ]
    ]
  ]

  pub let_go : (q : ℕ) → node_of before q ≢ None → (MayStep after q → MayStep before q ⊎ IsTouched pid.0 me q) × (MayUndo after q → MayUndo before q ⊎ IsTouched pid.0 me q)
  let_go q some =
      let x = some_of (node_of before q) some in
      elim (touched q) [
        | inl is ↦ (λ may. inr is, λ may. inr is)
        | inr not ↦ (λ may. inl (stepped_before q x.0 x.1 not.0 not.1 not.2 may), λ may. inl (undone_before q x.0 x.1 not.0 not.1 not.2 may))
      ]

  pub ends_by : (q : ℕ) → node_of before q ≢ None → (ended after q ≡ ended before q) ⊎ ((q ≡ pid.0) ⊎ (q ≡ me.root))
  ends_by q some = elim (cases_eq q pid.0) [
    | inl own ↦ inr (inl own)
    | inr differs ↦ elim (cases_eq q me.root) [
      | inl root ↦ inr (inr root)
      | inr other ↦ inl (let x = some_of (node_of before q) some in by x.0 x.1 differs other (is_top x.0.above) refl)
    ]
  ]
    where
      by : (x : Node) → node_of before q ≡ Some x → q ≢ pid.0 → q ≢ me.root → (b : Bool) → is_top x.above ≡ b → ended after q ≡ ended before q
      by x there differs other true top = (apart q x there (top_is x.above top) other).ends q x there (top_is_own before (forest_all before legal.0) q x there (top_is x.above top))
      by x there differs other false below =
          ap (ended_node after q) (nodes_stay (entry_is.Step pid pick out) before legal q x there)
          ∙ ap (λ b. if b then root_ended after q else is_stopped (last_answer after q)) below
          ∙ ap is_stopped (not_stepped pid pick out before q differs)
          ∙ ap (λ b. if b then root_ended before q else is_stopped (last_answer before q)) (sym below)
          ∙ ap (ended_node before q) (sym there)
