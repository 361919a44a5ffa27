-- Which trees stand still at an entry, and that one that has ended stays so.
use Rattle.std.proofs.Common.{◌≡◌, ◌≢◌, ℕ, ◌+◌, ◌<◌, ◌≤◌, List, [], ◌∷◌, true, false, not, ◌&&◌, ◌||◌, ◌==◌, Option, Some, None, is_some, is_none, refl, ap, sym, ◌∙◌, subst, inl, inr, ◌⊎◌, arith}
use Rattle.std.proofs.lemmas.Bool.{and_from, and_left, and_parts, cases_Bool, cases_eq, cond-false, eq-eqb, eqb-true, false≢true, ne_eqb, not_from_false, not_from_true, or_cases, or_left, true≢false}
use Rattle.std.proofs.lemmas.Option.{same_Some}
use Rattle.hm_names.specs.Server.{Server}
use Rattle.hm_names.specs.declared.pid.Pid.{Pid}
use Rattle.hm_data.specs.declared.answer.Answer.{Answer}
use Rattle.hm_data.specs.declared.answer.Answer.TheVariants as answer_is
use Rattle.hm_data.specs.declared.answer.Cause.{Cause}
use Rattle.hm_data.specs.declared.entry.Entry.TheVariants as entry_is
use Rattle.hm_data.specs.declared.step.StepOut.{StepOut}
use Rattle.hm_model.specs.Answers.{done_with, is_stopped, last_answer}
use Rattle.hm_model.specs.Catalog.{was}
use Rattle.hm_model.specs.Journal.{Past}
use Rattle.hm_model.specs.Phase.{all_stopped, cause, children_ended, in_tree, rolled_back, root_ended, root_over, stopped_in}
use Rattle.hm_model.specs.Tree.{Node, is_top, made, node_of, root_in, root_of}
use Rattle.hm_model.specs.Undo.{is_empty, stack}
use Rattle.hm_model.proofs.LegalSteps.{ReadyBy, StepFacts, ready_stops}
use Rattle.hm_model.proofs.StepDoes.{Does}
use Rattle.hm_model.proofs.Tops.{TopHolds, TopIs}
use Rattle.hm_model.proofs.Trees.{Grown, IsRooted, IsWaiting, all_below_at, all_below_from, child_stopped, is_there, le_or_lt, new_child, node_same, old_or_new, other_answer, root_low, still_there}
use Rattle.hm_model.proofs.Small.{cons_nil}
use Rattle.hm_model.proofs.Answered.{running_undone}

pub waiting_runs : (o : Option Answer) → IsWaiting o → is_stopped o ≡ false
waiting_runs (Some (answer_is.Wait n)) w = refl
waiting_runs None w = absurd w
waiting_runs (Some (answer_is.More n)) w = absurd w
waiting_runs (Some (answer_is.Await n)) w = absurd w
waiting_runs (Some (answer_is.Done told)) w = absurd w
waiting_runs (Some (answer_is.Fail c)) w = absurd w
waiting_runs (Some answer_is.Undone) w = absurd w

module _ (J : Past) (grown : Grown J) where
  -- above a procedure that hasn't stopped a child of its root hasn't
  pub live_child : (above : List ℕ) (q : ℕ) (x : Node) → node_of J q ≡ Some x → x.above ≡ above → above ≢ [] → is_stopped (last_answer J q) ≡ false → (c : ℕ) × (y : Node) × (node_of J c ≡ Some y) × (y.above ≡ x.root ∷ []) × (is_stopped (last_answer J c) ≡ false) × IsWaiting (last_answer J x.root)
  live_child [] q x is e some runs = absurd (some refl)
  live_child (u ∷ []) q x is e some runs =
      let up = grown.ups q x is u [] e in
      let root : x.root ≡ u = sym up.3 ∙ grown.tops u up.0 up.1 up.2 in
      (q, x, is, e ∙ ap (λ k. k ∷ []) (sym root), runs, subst (λ k. IsWaiting (last_answer J k)) (sym root) (grown.waits q x is u [] e runs))
  live_child (u ∷ v ∷ rest) q x is e some runs =
      let up = grown.ups q x is u (v ∷ rest) e in
      let l = live_child (v ∷ rest) u up.0 up.1 up.2 (λ h. cons_nil v rest h) (waiting_runs (last_answer J u) (grown.waits q x is u (v ∷ rest) e runs)) in
      (l.0, l.1, l.2, l.3 ∙ ap (λ k. k ∷ []) up.3, l.4, subst (λ k. IsWaiting (last_answer J k)) up.3 l.5)

  waits_ended : (r : ℕ) (node : Node) (o : Option Answer) → IsWaiting o → ReadyBy J r node o → children_ended J r ≡ true
  waits_ended r node (Some (answer_is.Wait n)) w ready = ready
  waits_ended r node None w ready = absurd w
  waits_ended r node (Some (answer_is.More n)) w ready = absurd w
  waits_ended r node (Some (answer_is.Await n)) w ready = absurd w
  waits_ended r node (Some (answer_is.Done told)) w ready = absurd w
  waits_ended r node (Some (answer_is.Fail c)) w ready = absurd w
  waits_ended r node (Some answer_is.Undone) w ready = absurd w

  -- where a root makes a step all its descendants have stopped
  pub quiet_tree : (r : ℕ) (node : Node) → ReadyBy J r node (last_answer J r) → (q : ℕ) (x : Node) → node_of J q ≡ Some x → x.root ≡ r → x.above ≢ [] → is_stopped (last_answer J q) ≡ true
  quiet_tree r node ready q x is root some = elim (cases_Bool (is_stopped (last_answer J q))) [
    | inl on ↦ on
    | inr runs ↦
        let l = live_child x.above q x is refl some runs in
        let ended = waits_ended r node (last_answer J r) (subst (λ k. IsWaiting (last_answer J k)) root l.5) ready in
        absurd (true≢false (sym (child_stopped J grown r ended l.0 l.1 l.2 [] (l.3 ∙ ap (λ k. k ∷ []) root)) ∙ l.4))
  ]

  -- a procedure of a tree that has ended has stopped
  pub ended_stops : (r : ℕ) → root_ended J r ≡ true → (q : ℕ) (x : Node) → node_of J q ≡ Some x → x.root ≡ r → x.above ≢ [] → is_stopped (last_answer J q) ≡ true
  ended_stops r ended q x is root some = by (cause J r) refl
    where
      by : (c : Option Cause) → cause J r ≡ c → is_stopped (last_answer J q) ≡ true
      by None e = elim (cases_Bool (is_stopped (last_answer J q))) [
        | inl on ↦ on
        | inr runs ↦
            let l = live_child x.above q x is refl some runs in
            absurd (by_last (last_answer J r) refl (subst (λ k. IsWaiting (last_answer J k)) root l.5))
      ]
        where
          by_last : (o : Option Answer) → last_answer J r ≡ o → IsWaiting o → ⊥
          by_last (Some (answer_is.Wait n)) l w = false≢true (sym (ap (λ c. root_over c (rolled_back J r) (done_with (last_answer J r))) e ∙ ap (λ o. is_some (done_with o)) l) ∙ ended)
          by_last None l w = w
          by_last (Some (answer_is.More n)) l w = w
          by_last (Some (answer_is.Await n)) l w = w
          by_last (Some (answer_is.Done told)) l w = w
          by_last (Some (answer_is.Fail c)) l w = w
          by_last (Some answer_is.Undone) l w = w
      by (Some c) e =
          let rolled : rolled_back J r ≡ true = ap (λ k. root_over k (rolled_back J r) (done_with (last_answer J r))) (sym e) ∙ ended in
          let all = (and_parts (all_stopped J r) (is_empty (stack J r)) rolled).0 in
          let at = all_below_at (made J + 1) (stopped_in J r) q all (let le = is_there J grown q x is in omega (arith, le)) in
          elim (or_cases (not (in_tree r (node_of J q))) ((q == r) || is_stopped (last_answer J q)) at) [
            | inl out_of ↦ absurd (true≢false (sym out_of ∙ not_from_true (in_tree r (node_of J q)) (ap (in_tree r) is ∙ eq-eqb x.root r root)))
            | inr more ↦ elim (or_cases (q == r) (is_stopped (last_answer J q)) more) [
              | inl same ↦ absurd (not_root (eqb-true q r same))
              | inr stopped ↦ stopped
            ]
          ]
        where
          not_root : q ≡ r → ⊥
          not_root same = by_above x.above refl
            where
              by_above : (above : List ℕ) → x.above ≡ above → ⊥
              by_above [] a = some a
              by_above (u ∷ rest) a =
                  let lt = grown.later q x is u rest a in
                  let up = grown.ups q x is u rest a in
                  let le = root_low J grown rest u up.0 up.1 up.2 in
                  let e2 = up.3 in
                  omega (arith, lt, le, e2, root, same)

-- a tree that an entry leaves alone
pub record Left (J J' : Past) (s : ℕ) : Type 0 where
  pub node : node_of J' s ≡ node_of J s
  pub last : last_answer J' s ≡ last_answer J s
  pub cause_is : cause J' s ≡ cause J s
  pub stack_is : stack J' s ≡ stack J s
  pub was_is : was J' s ≡ was J s
  pub stopped : all_stopped J s ≡ true → all_stopped J' s ≡ true

same_done : (J J' : Past) (s : ℕ) → Left J J' s → done_with (last_answer J' s) ≡ done_with (last_answer J s)
same_done J J' s left = ap done_with left.last

-- a root that has ended stays so
pub ended_left : (J J' : Past) (s : ℕ) → Left J J' s → root_ended J s ≡ true → root_ended J' s ≡ true
ended_left J J' s left ended = by (cause J s) refl
  where
    by : (c : Option Cause) → cause J s ≡ c → root_ended J' s ≡ true
    by None e =
        ap (λ k. root_over k (rolled_back J' s) (done_with (last_answer J' s))) (left.cause_is ∙ e) ∙ ap is_some (same_done J J' s left)
        ∙ sym (ap (λ k. root_over k (rolled_back J s) (done_with (last_answer J s))) e) ∙ ended
    by (Some c) e =
        let rolled : rolled_back J s ≡ true = ap (λ k. root_over k (rolled_back J s) (done_with (last_answer J s))) (sym e) ∙ ended in
        let parts = and_parts (all_stopped J s) (is_empty (stack J s)) rolled in
        ap (λ k. root_over k (rolled_back J' s) (done_with (last_answer J' s))) (left.cause_is ∙ e) ∙ and_from (all_stopped J' s) (is_empty (stack J' s)) (left.stopped parts.0) (ap is_empty left.stack_is ∙ parts.1)

pub holds_left : (J J' : Past) (s : ℕ) (node : Node) → Left J J' s → TopHolds J' s node → TopHolds J s node
holds_left J J' s node left h = ((sym left.node ∙ h.0.0, h.0.1), λ e. h.1 (left.last ∙ e), elim (cases_Bool (root_ended J s)) [ inr off ↦ off | inl on ↦ absurd (true≢false (sym (ended_left J J' s left on) ∙ h.2)) ])

-- another tree's step
module _ (pid : Pid) (pick : Option Server) (out : StepOut) (J : Past) (grown : Grown J) (step : StepFacts J pid.0 pick out) (d : Does J pid.0 step.node.args (last_answer J pid.0) step.sheet.rows out) where
  step_root : root_of J pid.0 ≡ step.node.root
  step_root = ap root_in step.node_is

  pub top_not_me : (s : ℕ) (node : Node) → TopIs J s node → s ≢ step.node.root → s ≢ pid.0
  top_not_me s node top differs same =
      let one : node ≡ step.node = same_Some node step.node (sym top.0 ∙ ap (node_of J) same ∙ step.node_is) in
      differs (same ∙ sym (grown.tops pid.0 step.node step.node_is (ap (λ (n : Node). n.above) (sym one) ∙ top.1)))

  pub step_left : (s : ℕ) (node : Node) → TopIs J s node → s ≢ step.node.root → Left J (entry_is.Step pid pick out ∷ J) s
  step_left s node top differs =
      let ne = top_not_me s node top differs in
      let off : (root_of J pid.0 == s) ≡ false = ne_eqb (root_of J pid.0) s (λ e. differs (sym e ∙ step_root)) in
      record {
        node = node_same pid pick out J s (is_there J grown s node top.0);
        last = other_answer pid pick out J s ne;
        cause_is = cond-false (root_of J pid.0 == s) _ (cause J s) off;
        stack_is = cond-false (root_of J pid.0 == s) _ (stack J s) off;
        was_is = cond-false ((s == pid.0) && is_none (last_answer J pid.0)) _ (was J s) (and_left (s == pid.0) (is_none (last_answer J pid.0)) (ne_eqb s pid.0 ne));
        stopped = λ all. all_below_from (made (entry_is.Step pid pick out ∷ J) + 1) (stopped_in (entry_is.Step pid pick out ∷ J) s) (λ q lt. by q (le_or_lt q (made J)) all);
      }
    where
      out_of : (q : ℕ) (x : Node) → node_of (entry_is.Step pid pick out ∷ J) q ≡ Some x → x.root ≢ s → stopped_in (entry_is.Step pid pick out ∷ J) s q ≡ true
      out_of q x is ne = or_left (not (in_tree s (node_of (entry_is.Step pid pick out ∷ J) q))) _ (not_from_false _ (ap (in_tree s) is ∙ ne_eqb x.root s ne))

      nobody : (q : ℕ) → node_of (entry_is.Step pid pick out ∷ J) q ≡ None → stopped_in (entry_is.Step pid pick out ∷ J) s q ≡ true
      nobody q none = or_left (not (in_tree s (node_of (entry_is.Step pid pick out ∷ J) q))) _ (not_from_false _ (ap (in_tree s) none))

      by : (q : ℕ) → (q ≤ made J) ⊎ (made J < q) → all_stopped J s ≡ true → stopped_in (entry_is.Step pid pick out ∷ J) s q ≡ true
      by q (inl le) all = elim (cases_eq q pid.0) [
        | inl same ↦ out_of q step.node (ap (node_of (entry_is.Step pid pick out ∷ J)) same ∙ still_there pid pick out J grown step d pid.0 step.node step.node_is) (λ e. differs (sym e))
        | inr other ↦ ap (λ n. not (in_tree s n) || ((q == s) || is_stopped (last_answer (entry_is.Step pid pick out ∷ J) q))) (node_same pid pick out J q le) ∙ ap (λ o. not (in_tree s (node_of J q)) || ((q == s) || is_stopped o)) (other_answer pid pick out J q other) ∙ all_below_at (made J + 1) (stopped_in J s) q all (omega (arith, le))
      ]
      by q (inr lt) all = by_node (node_of (entry_is.Step pid pick out ∷ J) q) refl
        where
          by_node : (o : Option Node) → node_of (entry_is.Step pid pick out ∷ J) q ≡ o → stopped_in (entry_is.Step pid pick out ∷ J) s q ≡ true
          by_node None e = nobody q e
          by_node (Some x) e = let c = new_child pid pick out J step.node step.node_is q lt x e in out_of q x e (λ same. differs (sym same ∙ ap (λ (n : Node). n.root) c.2))

  -- a tree whose procedure steps hasn't ended
  pub step_open : root_ended J step.node.root ≡ false
  step_open = elim (cases_Bool (root_ended J step.node.root)) [
    | inr off ↦ off
    | inl on ↦ absurd (by step.node.above refl on)
  ]
    where
      own_runs : is_stopped (last_answer J pid.0) ≡ false
      own_runs = ready_stops J pid.0 step.node (last_answer J pid.0) step.ready

      by : (above : List ℕ) → step.node.above ≡ above → root_ended J step.node.root ≡ true → ⊥
      by [] e ended =
          let root : step.node.root ≡ pid.0 = grown.tops pid.0 step.node step.node_is e in
          let none : cause J pid.0 ≡ None = step.uncaused (ap is_top e) in
          false≢true (sym (ap (λ k. root_over k (rolled_back J pid.0) (done_with (last_answer J pid.0))) none ∙ ap is_some (running_undone (last_answer J pid.0) own_runs)) ∙ ap (root_ended J) (sym root) ∙ ended)
      by (u ∷ rest) e ended = true≢false (sym (ended_stops J grown step.node.root ended pid.0 step.node step.node_is refl (λ h. cons_nil u rest (sym e ∙ h))) ∙ own_runs)

-- an entry that makes roots leaves each tree alone whose cause, steps to undo and catalog before it leaves
pub rooted_left : (J J' : Past) → IsRooted J J' → Grown J → (s : ℕ) (node : Node) → TopIs J s node → cause J' s ≡ cause J s → stack J' s ≡ stack J s → was J' s ≡ was J s → Left J J' s
rooted_left J J' rooted grown s node top causes stacks base = record {
  node = rooted.old s (is_there J grown s node top.0);
  last = rooted.last s;
  cause_is = causes;
  stack_is = stacks;
  was_is = base;
  stopped = λ all. all_below_from (made J' + 1) (stopped_in J' s) (λ q lt. by q (le_or_lt q (made J)) all);
}
  where
    by : (q : ℕ) → (q ≤ made J) ⊎ (made J < q) → all_stopped J s ≡ true → stopped_in J' s q ≡ true
    by q (inl le) all = ap (λ n. not (in_tree s n) || ((q == s) || is_stopped (last_answer J' q))) (rooted.old q le) ∙ ap (λ o. not (in_tree s (node_of J q)) || ((q == s) || is_stopped o)) (rooted.last q) ∙ all_below_at (made J + 1) (stopped_in J s) q all (omega (arith, le))
    by q (inr lt) all = by_node (node_of J' q) refl
      where
        by_node : (o : Option Node) → node_of J' q ≡ o → stopped_in J' s q ≡ true
        by_node None e = or_left (not (in_tree s (node_of J' q))) _ (not_from_false _ (ap (in_tree s) e))
        by_node (Some x) e = elim (old_or_new J J' rooted grown q x e) [
          | inl was ↦ (let le = is_there J grown q x was in absurd (omega (arith, le, lt)))
          | inr new ↦
              let le = is_there J grown s node top.0 in
              let root : x.root ≡ q = ap (λ (n : Node). n.root) new.2 in
              or_left (not (in_tree s (node_of J' q))) _ (not_from_false _ (ap (in_tree s) e ∙ ne_eqb x.root s (λ same. omega (arith, le, lt, root, same))))
        ]
