-- Who can't go on and waits for the answer to its call is shown as awaiting.
use Rattle.std.proofs.Common.{◌≡◌, ◌≢◌, ◌↔◌, ◌+◌, ◌==◌, ◌&&◌, ℕ, Bool, true, false, not, is_some, IsTrue, Option, Some, None, refl, inl, inr, ap, sym, ◌∙◌, subst}
use Rattle.std.proofs.lemmas.Bool.{and_parts, cases_Bool, cond-true, eq-eqb, eqb-true, false≢true, not-true, true≢false}
use Rattle.std.proofs.lemmas.Option.{none-some, same_Some}
use Rattle.hm_data.specs.declared.answer.Answer.{Answer}
use Rattle.hm_data.specs.declared.answer.Answer.TheVariants as answer_is
use Rattle.hm_data.specs.declared.answer.Cause.{Cause}
use Rattle.hm_data.specs.declared.record.Phase.TheVariants as phase_is
use Rattle.hm_data.specs.declared.record.Record.{Record}
use Rattle.hm_model.specs.Answers.{done_with, is_stopped, last_answer}
use Rattle.hm_model.specs.Forest.{IsWait}
use Rattle.hm_model.specs.Journal.{Past}
use Rattle.hm_model.specs.Phase.{all_stopped, cause, children_ended, ended, ended_node, in_tree, own_phase, phase, phase_table, rolled_back, root_ended, root_over}
use Rattle.hm_model.specs.Records.{record_of}
use Rattle.hm_model.specs.Rules.{IsLegal}
use Rattle.hm_model.specs.Tree.{Node, is_top, made, node_of, root_in}
use Rattle.hm_model.specs.Undo.{is_empty, stack}
use Rattle.hm_model.specs.Waiting.{is_open_under}
use Rattle.hm_model.proofs.Counting.{count_none, find_below}
use Rattle.hm_model.proofs.Forest.{forest_all, rooted_all, roots_wait, top_is_own}
use Rattle.hm_model.proofs.Waiting.{under_tells}
use Rattle.hm_judge.proofs.Found.{gone_of, there_of}
use Rattle.hm_model.proofs.Grown.{grown_all}
use Rattle.hm_roster.specs.Roster.{is_crash_if, is_of_crash}
use Rattle.hm_tied.specs.Tied.{Awaits, CanGo}
use Rattle.hm_model.proofs.Running.{awaits_call, calm_stopped, run_open, top_or_below}
use Rattle.hm_model.proofs.Small.{top_is}

not_both : (last : Option Answer) (n : ℕ) → last ≡ Some (answer_is.Await n) → IsWait last → ⊥
not_both last n awaits waits = by (sym awaits ∙ waits.1)
  where
    by : Some (answer_is.Await n) ≡ Some (answer_is.Wait waits.0) → ⊥
    by e = cc

module _ (J : Past) (legal : IsLegal J) (p : ℕ) (x : Node) (is : node_of J p ≡ Some x) (stuck : CanGo J p → ⊥) (n : ℕ) (last : last_answer J p ≡ Some (answer_is.Await n)) (unended : ended J p ≡ false) where
  own : own_phase (last_answer J p) (children_ended J p) ≡ phase_is.Awaiting
  own = ap (λ o. own_phase o (children_ended J p)) last

  -- an awaiting root has no descendant that goes on
  none_open : (q : ℕ) → is_open_under J p q ≡ true → ⊥
  none_open q on = by (node_of J q) refl
    where
      parts : (in_tree p (node_of J q) ≡ true) × ((not (q == p) && not (is_stopped (last_answer J q))) ≡ true)
      parts = and_parts (in_tree p (node_of J q)) (not (q == p) && not (is_stopped (last_answer J q))) on

      more : (not (q == p) ≡ true) × (not (is_stopped (last_answer J q)) ≡ true)
      more = and_parts (not (q == p)) (not (is_stopped (last_answer J q))) parts.1

      by : (o : Option Node) → node_of J q ≡ o → ⊥
      by None e = false≢true (sym (ap (in_tree p) e) ∙ parts.0)
      by (Some y) e =
          let of : y.root ≡ p = eqb-true y.root p (sym (ap (in_tree p) e) ∙ parts.0) in
          elim (top_or_below y.above) [
            | inl top ↦ true≢false (sym (eq-eqb q p (sym (top_is_own J (forest_all J legal) q y e (top_is y.above top)) ∙ of)) ∙ not-true (q == p) more.0)
            | inr below ↦ not_both (last_answer J p) n last (subst (λ r. IsWait (last_answer J r)) of (roots_wait J legal q y e below.1 (not-true (is_stopped (last_answer J q)) more.1)))
          ]

  all_there : all_stopped J p ≡ true
  all_there = elim (find_below (made J + 1) (is_open_under J p)) [
    | inl found ↦ absurd (none_open found.0 found.2)
    | inr none ↦ under_tells J p ∙ ap (λ k. k == 0) (count_none (made J + 1) (is_open_under J p) none)
  ]

  -- so a root has no cause
  root_sound : is_top x.above ≡ true → (c : Cause) → cause J p ≡ Some c → ⊥
  root_sound top c e = stuck (inr (
    x,
    is,
    ap (λ b. b && (is_some (cause J p) && (all_stopped J p && not (is_empty (stack J p))))) top
        ∙ ap (λ k. is_some k && (all_stopped J p && not (is_empty (stack J p)))) e
        ∙ ap (λ b. b && not (is_empty (stack J p))) all_there
        ∙ ap not left,
  ))
    where
      open_root : root_ended J p ≡ false
      open_root = sym (ap (ended_node J p) is ∙ cond-true (is_top x.above) (root_ended J p) (is_stopped (last_answer J p)) top) ∙ unended

      back : rolled_back J p ≡ false
      back = sym (ap (λ k. root_over k (rolled_back J p) (done_with (last_answer J p))) e) ∙ open_root

      left : is_empty (stack J p) ≡ false
      left = sym (ap (λ b. b && is_empty (stack J p)) all_there) ∙ back

  -- a descendant's root isn't rolled back
  below_back : is_top x.above ≡ false → rolled_back J x.root ≡ true → ⊥
  below_back low on =
      let all = (and_parts (all_stopped J x.root) (is_empty (stack J x.root)) on).0 in
      let root = rooted_all J legal p x is in
      let differs : p ≢ x.root = λ e. (let same = same_Some x root.root (sym is ∙ ap (node_of J) e ∙ root.there) in true≢false (sym (ap is_top (ap (λ (m : Node). m.above) same ∙ root.at_top)) ∙ low)) in
      false≢true (sym (ap is_stopped last) ∙ calm_stopped J legal x.root p x is refl differs all)

  pub shown : phase J p x ≡ phase_is.Awaiting
  shown = by (cause J x.root) refl
    where
      by : (o : Option Cause) → cause J x.root ≡ o → phase J p x ≡ phase_is.Awaiting
      by None e = ap (λ c. phase_table c (rolled_back J x.root) (is_top x.above) (own_phase (last_answer J p) (children_ended J p))) e ∙ own
      by (Some c) e = elim (top_or_below x.above) [
        | inl top ↦ absurd (root_sound top c (ap (cause J) (sym (top_is_own J (forest_all J legal) p x is (top_is x.above top))) ∙ e))
        | inr low ↦ elim (cases_Bool (rolled_back J x.root)) [
          | inl on ↦ absurd (below_back low.0 on)
          | inr off ↦
              ap (λ k. phase_table k (rolled_back J x.root) (is_top x.above) (own_phase (last_answer J p) (children_ended J p))) e
              ∙ ap (λ b. phase_table (Some c) b (is_top x.above) (own_phase (last_answer J p) (children_ended J p))) off
              ∙ ap (λ b. phase_table (Some c) false b (own_phase (last_answer J p) (children_ended J p))) low.0
              ∙ own
        ]
      ]

-- by the phase in which it is shown
pub awaits_by : (J : Past) → IsLegal J → (p : ℕ) (its : Record) → Some its ≡ record_of J p → (b : Bool) → (IsTrue b ↔ (its.phase ≡ phase_is.Awaiting)) → (CanGo J p → ⊥) → IsTrue b ↔ Awaits J p
awaits_by J legal p its some b tells stuck =
    let t = there_of J p its some in
    let x = t.0 in
    let same = ap (λ (r : Record). r.phase) t.2 in (
      λ on.
          let waits = sym same ∙ tells.0 on in
          ((λ none. none-some x (sym none ∙ t.1), run_open J legal p x t.1 (inr waits)), awaits_call J p x waits),
      λ awaits. tells.1 (same ∙ shown J legal p x t.1 stuck (let n = awaits.1 in n.0) (let n = awaits.1 in n.1) awaits.0.1),
    )

-- who isn't there doesn't await
pub nobody_awaits : (J : Past) (p : ℕ) → node_of J p ≡ None → Awaits J p → ⊥
nobody_awaits J p none awaits = awaits.0.0 none

-- who isn't there belongs to no crash
pub crashless : (J : Past) → IsLegal J → (p : ℕ) → None ≡ record_of J p → false ≡ is_of_crash J p
crashless J legal p none = sym (ap (λ q. is_crash_if (node_of J q)) (ap root_in (gone_of J p none)) ∙ ap is_crash_if (grown_all J legal).none)
