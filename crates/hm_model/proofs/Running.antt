-- Who runs, what it says of its tree, and who has none of its tree under way.
use Rattle.std.proofs.Common.{Bool, List, None, Option, Some, [], ap, arith, false, if◌then◌else◌, inl, inr, is_some, not, refl, sym, true, ℕ, ◌&&◌, ◌+◌, ◌==◌, ◌∙◌, ◌∷◌, ◌≡◌, ◌≢◌, ◌⊎◌}
use Rattle.std.proofs.lemmas.Bool.{and_parts, and_right, cases_eq, cond-false, eq-eqb, false≢true, ne_eqb, not-true, true≢false}
use Rattle.std.proofs.lemmas.Option.{none-some}
use Rattle.hm_data.specs.declared.answer.Answer.{Answer}
use Rattle.hm_data.specs.declared.answer.Answer.TheVariants as answer_is
use Rattle.hm_data.specs.declared.answer.Cause.{Cause}
use Rattle.hm_data.specs.declared.entry.Entry.TheVariants as entry_is
use Rattle.hm_data.specs.declared.record.Phase.{Phase}
use Rattle.hm_data.specs.declared.record.Phase.TheVariants as phase_is
use Rattle.hm_model.specs.Answers.{done_with, failing, is_stopped, last_answer}
use Rattle.hm_model.specs.Forest.{IsWait}
use Rattle.hm_model.specs.Inputs.{undoes}
use Rattle.hm_model.specs.Journal.{Past}
use Rattle.hm_model.specs.Phase.{all_stopped, cause, children_ended, ended, ended_node, in_tree, or_else, own_phase, phase, phase_table, rolled_back, root_ended, root_over, stopped_in}
use Rattle.hm_model.specs.Rest.{IsReady, MayStep}
use Rattle.hm_model.specs.Rules.{IsLegal}
use Rattle.hm_model.specs.Tree.{Node, is_top, made, node_of, root_in, root_of}
use Rattle.hm_model.specs.Undo.{is_empty, stack}
use Rattle.hm_model.proofs.Grown.{not_stepped, stepped}
use Rattle.hm_model.proofs.Forest.{forest_all, roots_wait, top_is_own}
use Rattle.hm_model.proofs.Trees.{all_below_at, grown_all, is_there}
use Rattle.hm_model.proofs.Small.{from_test, top_is}

-- the phases in which a step may be made
abbrev pub Runs : Phase → Type 0
Runs phase = (phase ≡ phase_is.Runnable) ⊎ (phase ≡ phase_is.Awaiting)

-- it runs by its own last step, and its tree isn't rolled back, nor, if it is the root, failed
pub runs_own : (c : Option Cause) (back top : Bool) (own : Phase) → Runs (phase_table c back top own) → Runs own × ((c ≡ None) ⊎ ((back ≡ false) × (top ≡ false)))
runs_own None back top own h = (h, inl refl)
runs_own (Some c) true top own h = elim h [ inl e ↦ cc | inr e ↦ cc ]
runs_own (Some c) false true own h = elim h [ inl e ↦ cc | inr e ↦ cc ]
runs_own (Some c) false false own h = (h, inr (refl, refl))

pub own_is : (c : Option Cause) (back top : Bool) (own : Phase) → Runs (phase_table c back top own) → phase_table c back top own ≡ own
own_is None back top own h = refl
own_is (Some c) true top own h = elim h [ inl e ↦ cc | inr e ↦ cc ]
own_is (Some c) false true own h = elim h [ inl e ↦ cc | inr e ↦ cc ]
own_is (Some c) false false own h = refl

-- its last step doesn't end it; where it waits for children they have ended
pub own_runs : (o : Option Answer) (children : Bool) → Runs (own_phase o children) → (is_stopped o ≡ false) × (done_with o ≡ None) × (IsWait o → children ≡ true)
own_runs None children h = (refl, refl, λ w. absurd (none-some (answer_is.Wait w.0) w.1))
own_runs (Some (answer_is.More n)) children h = (refl, refl, λ w. (let e : Some (answer_is.More n) ≡ Some (answer_is.Wait w.0) = w.1 in absurd (cc)))
own_runs (Some (answer_is.Wait n)) true h = (refl, refl, λ w. refl)
own_runs (Some (answer_is.Wait n)) false h = elim h [ inl e ↦ cc | inr e ↦ cc ]
own_runs (Some (answer_is.Await n)) children h = (refl, refl, λ w. (let e : Some (answer_is.Await n) ≡ Some (answer_is.Wait w.0) = w.1 in absurd (cc)))
own_runs (Some (answer_is.Done told)) children h = elim h [ inl e ↦ cc | inr e ↦ cc ]
own_runs (Some (answer_is.Fail c)) children h = elim h [ inl e ↦ cc | inr e ↦ cc ]
own_runs (Some answer_is.Undone) children h = elim h [ inl e ↦ cc | inr e ↦ cc ]

-- where it awaits, its last step called
pub own_awaits : (o : Option Answer) (children : Bool) → own_phase o children ≡ phase_is.Awaiting → (next : ℕ) × (o ≡ Some (answer_is.Await next))
own_awaits None children h = cc
own_awaits (Some (answer_is.More n)) children h = cc
own_awaits (Some (answer_is.Wait n)) true h = cc
own_awaits (Some (answer_is.Wait n)) false h = cc
own_awaits (Some (answer_is.Await n)) children h = (n, refl)
own_awaits (Some (answer_is.Done told)) children h = cc
own_awaits (Some (answer_is.Fail c)) children h = cc
own_awaits (Some answer_is.Undone) children h = cc

-- what a step may be made of runs
pub ready_runs : (J : Past) (p : ℕ) (x : Node) → IsReady J p x → Runs (phase J p x)
ready_runs J p x ready = elim ready [ inl e ↦ inl e | inr e ↦ inr e.0 ]

-- one below a root, or the root
pub top_or_below : (above : List ℕ) → (is_top above ≡ true) ⊎ ((is_top above ≡ false) × (above ≢ []))
top_or_below [] = inl refl
top_or_below (up ∷ above) = inr (refl, λ e. cc)

module _ (J : Past) (legal : IsLegal J) (p : ℕ) (x : Node) (is : node_of J p ≡ Some x) (runs : Runs (phase J p x)) where
  pub run_facts : Runs (own_phase (last_answer J p) (children_ended J p)) × ((cause J x.root ≡ None) ⊎ ((rolled_back J x.root ≡ false) × (is_top x.above ≡ false)))
  run_facts = runs_own (cause J x.root) (rolled_back J x.root) (is_top x.above) (own_phase (last_answer J p) (children_ended J p)) runs

  pub run_last : (is_stopped (last_answer J p) ≡ false) × (done_with (last_answer J p) ≡ None) × (IsWait (last_answer J p) → children_ended J p ≡ true)
  run_last = own_runs (last_answer J p) (children_ended J p) run_facts.0

  root_undone : done_with (last_answer J x.root) ≡ None
  root_undone = elim (top_or_below x.above) [
    | inl top ↦ ap (λ r. done_with (last_answer J r)) (top_is_own J (forest_all J legal) p x is (top_is x.above top)) ∙ run_last.1
    | inr below ↦ ap done_with (roots_wait J legal p x is below.1 run_last.0).1
  ]

  -- its root hasn't ended
  pub run_root : root_ended J x.root ≡ false
  run_root = elim run_facts.1 [ inl sound ↦ unfailed sound | inr back ↦ by (cause J x.root) refl back.0 ]
    where
      unfailed : cause J x.root ≡ None → root_ended J x.root ≡ false
      unfailed sound = ap (λ c. root_over c (rolled_back J x.root) (done_with (last_answer J x.root))) sound ∙ ap is_some root_undone

      by : (c : Option Cause) → cause J x.root ≡ c → rolled_back J x.root ≡ false → root_ended J x.root ≡ false
      by None e back = unfailed e
      by (Some c) e back = ap (λ k. root_over k (rolled_back J x.root) (done_with (last_answer J x.root))) e ∙ back

  pub run_open : ended J p ≡ false
  run_open = ap (ended_node J p) is ∙ elim (top_or_below x.above) [
    | inl top ↦ ap (λ b. if b then root_ended J p else is_stopped (last_answer J p)) top ∙ ap (root_ended J) (sym (top_is_own J (forest_all J legal) p x is (top_is x.above top))) ∙ run_root
    | inr below ↦ ap (λ b. if b then root_ended J p else is_stopped (last_answer J p)) below.0 ∙ run_last.0
  ]

  pub run_none : undoes J p x ≡ false
  run_none = elim (top_or_below x.above) [
    | inl top ↦ elim run_facts.1 [
      | inl sound ↦
          let own = top_is_own J (forest_all J legal) p x is (top_is x.above top) in
          ap (λ b. b && (is_some (cause J p) && (all_stopped J p && not (is_empty (stack J p))))) top ∙ ap (λ c. is_some c && (all_stopped J p && not (is_empty (stack J p)))) (ap (cause J) (sym own) ∙ sound)
      | inr back ↦ absurd (true≢false (sym top ∙ back.1))
    ]
    | inr below ↦ ap (λ b. b && (is_some (cause J p) && (all_stopped J p && not (is_empty (stack J p))))) below.0
  ]

-- what undoing needs
pub undo_facts : (J : Past) (p : ℕ) (x : Node) → undoes J p x ≡ true → (is_top x.above ≡ true) × (is_some (cause J p) ≡ true) × (all_stopped J p ≡ true) × (is_empty (stack J p) ≡ false)
undo_facts J p x on =
    let a = and_parts (is_top x.above) (is_some (cause J p) && (all_stopped J p && not (is_empty (stack J p)))) on in
    let b = and_parts (is_some (cause J p)) (all_stopped J p && not (is_empty (stack J p))) a.1 in
    let c = and_parts (all_stopped J p) (not (is_empty (stack J p))) b.1 in
    (a.0, b.0, c.0, not-true (is_empty (stack J p)) c.1)

pub undo_open : (J : Past) (p : ℕ) (x : Node) → undoes J p x ≡ true → root_ended J p ≡ false
undo_open J p x on = let f = undo_facts J p x on in by (cause J p) f.1 f.3
  where
    by : (c : Option Cause) → is_some c ≡ true → is_empty (stack J p) ≡ false → root_over c (rolled_back J p) (done_with (last_answer J p)) ≡ false
    by None some left = absurd (false≢true some)
    by (Some c) some left = and_right (all_stopped J p) (is_empty (stack J p)) left

-- who awaits made a call with its last step
pub awaits_call : (J : Past) (p : ℕ) (x : Node) → phase J p x ≡ phase_is.Awaiting → (next : ℕ) × (last_answer J p ≡ Some (answer_is.Await next))
awaits_call J p x waits = own_awaits (last_answer J p) (children_ended J p) (sym (own_is (cause J x.root) (rolled_back J x.root) (is_top x.above) (own_phase (last_answer J p) (children_ended J p)) (inr waits)) ∙ waits)

-- where the descendants of a root have ended, each of them has stopped
pub calm_stopped : (J : Past) → IsLegal J → (r q : ℕ) (y : Node) → node_of J q ≡ Some y → y.root ≡ r → q ≢ r → all_stopped J r ≡ true → is_stopped (last_answer J q) ≡ true
calm_stopped J legal r q y is of differs all =
    let le = is_there J (grown_all J legal) q y is in
    from_test (in_tree r (node_of J q)) (q == r) (is_stopped (last_answer J q)) (ap (in_tree r) is ∙ eq-eqb y.root r of) (ne_eqb q r differs) (all_below_at (made J + 1) (stopped_in J r) q all (omega (arith, le)))

-- a tree fails by its steps alone, and the first is its root's
pub unfailed : (J : Past) → IsLegal J → (r : ℕ) → last_answer J r ≡ None → cause J r ≡ None
unfailed [] legal r none = refl
unfailed (entry_is.Base part ∷ before) legal r none = refl
unfailed (entry_is.Step pid pick out ∷ before) legal r none = elim (cases_eq r pid.0) [
  | inl same ↦ absurd (none-some out.answer (sym none ∙ ap (last_answer (entry_is.Step pid pick out ∷ before)) same ∙ stepped pid pick out before))
  | inr differs ↦ other differs (unfailed before legal.0 r (sym (not_stepped pid pick out before r differs) ∙ none)) (sym (not_stepped pid pick out before r differs) ∙ none) (cases_eq (root_of before pid.0) r)
]
  where
    below : r ≢ pid.0 → last_answer before r ≡ None → (x : Node) → node_of before pid.0 ≡ Some x → Runs (phase before pid.0 x) → x.root ≡ r → ⊥
    below differs fresh x is runs of = elim (top_or_below x.above) [
      | inl top ↦ differs (sym (sym (top_is_own before (forest_all before legal.0) pid.0 x is (top_is x.above top)) ∙ of))
      | inr low ↦
          let waits = roots_wait before legal.0 pid.0 x is low.1 (run_last before legal.0 pid.0 x is runs).0 in
          none-some (answer_is.Wait waits.0) (sym fresh ∙ ap (last_answer before) (sym of) ∙ waits.1)
    ]

    other : r ≢ pid.0 → cause before r ≡ None → last_answer before r ≡ None → (root_of before pid.0 ≡ r) ⊎ (root_of before pid.0 ≢ r) → cause (entry_is.Step pid pick out ∷ before) r ≡ None
    other differs sound fresh (inr apart) = cond-false (root_of before pid.0 == r) (or_else (cause before r) (failing out.answer)) (cause before r) (ne_eqb (root_of before pid.0) r apart) ∙ sound
    other differs sound fresh (inl own) =
        let may : MayStep before pid.0 = legal.1.1.0 in
        absurd (below differs fresh may.0 may.1 (ready_runs before pid.0 may.0 may.2) (ap root_in (sym may.1) ∙ own))
unfailed (entry ∷ before) legal r none = unfailed before legal.0 r none

-- who has no step hasn't ended
pub unstepped_open : (J : Past) → IsLegal J → (q : ℕ) → last_answer J q ≡ None → ended J q ≡ false
unstepped_open J legal q none = by (node_of J q) refl
  where
    by : (o : Option Node) → node_of J q ≡ o → ended J q ≡ false
    by None e = ap (ended_node J q) e
    by (Some x) e = ap (ended_node J q) e ∙ elim (top_or_below x.above) [
      | inl top ↦
          ap (λ b. if b then root_ended J q else is_stopped (last_answer J q)) top ∙ ap (λ c. root_over c (rolled_back J q) (done_with (last_answer J q))) (unfailed J legal q none)
          ∙ ap (λ o. is_some (done_with o)) none
      | inr below ↦ ap (λ b. if b then root_ended J q else is_stopped (last_answer J q)) below.0 ∙ ap is_stopped none
    ]
