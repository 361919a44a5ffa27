-- Who can go on, and what it says of its tree.
use Rattle.std.proofs.Common.{List, None, Option, Some, [], ap, false, if◌then◌else◌, inl, inr, not, refl, subst, sym, true, ℕ, ◌&&◌, ◌+◌, ◌==◌, ◌∙◌, ◌∷◌, ◌≡◌, ◌≢◌}
use Rattle.std.proofs.lemmas.Bool.{and_parts, cases_Bool, eq-eqb, eqb-true, false≢true, not-true, true≢false}
use Rattle.std.proofs.lemmas.Option.{none-some}
use Rattle.hm_model.specs.Answers.{is_stopped, last_answer}
use Rattle.hm_model.specs.Forest.{IsWait}
use Rattle.hm_model.specs.Holding.{IsFree}
use Rattle.hm_model.specs.Journal.{Past}
use Rattle.hm_model.specs.Phase.{children_ended, ended_node, in_tree, phase, root_ended}
use Rattle.hm_model.specs.Picks.{has_pick}
use Rattle.hm_model.specs.Rest.{MayStep, MayStepPicked}
use Rattle.hm_model.specs.Rules.{IsLegal}
use Rattle.hm_model.specs.Tree.{Node, is_root_in, is_top, made, node_of}
use Rattle.hm_model.specs.Waiting.{is_open_under}
use Rattle.hm_model.proofs.Counting.{count_none, find_below}
use Rattle.hm_model.proofs.Forest.{forest_all, roots_wait}
use Rattle.hm_model.proofs.Waiting.{under_tells}
use Rattle.hm_model.proofs.Trees.{child_stopped, grown_all}
use Rattle.hm_tied.proofs.Openings.{unopening}
use Rattle.hm_tied.proofs.Picking.{lacking_row}
use Rattle.hm_tied.specs.Tied.{CanGo, IsBusy, IsCalm, IsOpen, LacksPick}
use Rattle.hm_model.proofs.Running.{Runs, ready_runs, run_last, run_none, run_open, undo_facts, undo_open}
use Rattle.hm_model.proofs.Small.{cons_nil}

-- who can go on hasn't ended
pub go_open : (J : Past) → IsLegal J → (p : ℕ) → CanGo J p → IsOpen J p
go_open J legal p (inl may) = (λ none. none-some may.0 (sym none ∙ may.1), run_open J legal p may.0 may.1 (ready_runs J p may.0 may.2))
go_open J legal p (inr undo) = (
  λ none. none-some undo.0 (sym none ∙ undo.1),
  ap (ended_node J p) undo.1 ∙ ap (λ b. if b then root_ended J p else is_stopped (last_answer J p)) (undo_facts J p undo.0 undo.2).0 ∙ undo_open J p undo.0 undo.2,
)

pub busy_open : (J : Past) → IsLegal J → (p : ℕ) → IsBusy J p → IsOpen J p
busy_open J legal p (inl go) = go_open J legal p go
busy_open J legal p (inr waits) = waits.0

-- while one below goes on, children of its root haven't ended
children_open : (J : Past) → IsLegal J → (above : List ℕ) (up p : ℕ) (x : Node) → node_of J p ≡ Some x → x.above ≡ up ∷ above → is_stopped (last_answer J p) ≡ false → children_ended J x.root ≡ true → ⊥
children_open J legal [] up p x is over runs all =
    let parent = (grown_all J legal).ups p x is up [] over in
    let root : x.root ≡ up = sym parent.3 ∙ (grown_all J legal).tops up parent.0 parent.1 parent.2 in
    true≢false (sym (child_stopped J (grown_all J legal) up (ap (children_ended J) (sym root) ∙ all) p x is [] over) ∙ runs)
children_open J legal (next ∷ more) up p x is over runs all =
    let parent = (grown_all J legal).ups p x is up (next ∷ more) over in
    let waits = (forest_all J legal).waits p x up (next ∷ more) is over runs in
    children_open J legal more next up parent.0 parent.1 parent.2 (ap is_stopped waits.1) (ap (children_ended J) parent.3 ∙ all)

-- a root of which a step may be made has no descendant that goes on
pub step_calm : (J : Past) → IsLegal J → (p : ℕ) (x : Node) → node_of J p ≡ Some x → is_top x.above ≡ true → Runs (phase J p x) → (q : ℕ) (y : Node) → node_of J q ≡ Some y → y.root ≡ p → q ≢ p → is_stopped (last_answer J q) ≡ false → ⊥
step_calm J legal p x is top runs q y there of differs going = by y.above refl
  where
    by : (above : List ℕ) → y.above ≡ above → ⊥
    by [] e = differs (sym ((grown_all J legal).tops q y there e) ∙ of)
    by (up ∷ above) e =
        let waits = subst (λ r. IsWait (last_answer J r)) of (roots_wait J legal q y there (λ none. cons_nil up above (sym e ∙ none)) going) in
        children_open J legal above up q y there e going (ap (children_ended J) of ∙ (run_last J legal p x is runs).2 waits)

-- who can go on, if it is a root, has no descendant that goes on
pub go_calm : (J : Past) → IsLegal J → (p : ℕ) → CanGo J p → IsCalm J p
go_calm J legal p (inr undo) root = (undo_facts J p undo.0 undo.2).2
go_calm J legal p (inl may) root = elim (find_below (made J + 1) (is_open_under J p)) [
  | inl found ↦ absurd (going found.0 found.2)
  | inr none ↦ under_tells J p ∙ ap (λ n. n == 0) (count_none (made J + 1) (is_open_under J p) none)
]
  where
    going : (q : ℕ) → is_open_under J p q ≡ true → ⊥
    going q on = by (node_of J q) refl
      where
        parts : (in_tree p (node_of J q) ≡ true) × ((not (q == p) && not (is_stopped (last_answer J q))) ≡ true)
        parts = and_parts (in_tree p (node_of J q)) (not (q == p) && not (is_stopped (last_answer J q))) on

        more : (not (q == p) ≡ true) × (not (is_stopped (last_answer J q)) ≡ true)
        more = and_parts (not (q == p)) (not (is_stopped (last_answer J q))) parts.1

        by : (o : Option Node) → node_of J q ≡ o → ⊥
        by None e = false≢true (sym (ap (in_tree p) e) ∙ parts.0)
        by (Some y) e =
            step_calm J legal p may.0 may.1 (sym (ap is_root_in may.1) ∙ root) (ready_runs J p may.0 may.2) q y e
            (eqb-true y.root p (sym (ap (in_tree p) e) ∙ parts.0))
            (λ same. true≢false (sym more.0 ∙ ap not (eq-eqb q p same))) (not-true (is_stopped (last_answer J q)) more.1)

-- who may make a step, and not with a pick, needs one that isn't there
pub lacks_pick : (J : Past) → IsLegal J → (p : ℕ) → MayStep J p → (MayStepPicked J p → ⊥) → IsFree J [] p → LacksPick J p
lacks_pick J legal p may none free =
    let undone = run_none J legal p may.0 may.1 (ready_runs J p may.0 may.2) in
    let lacks : has_pick J p may.0 ≡ false = elim (cases_Bool (has_pick J p may.0)) [ inl on ↦ absurd (none (may.0, may.1, may.2, on)) | inr off ↦ off ] in
    let row = lacking_row J p may.0 may.1 undone lacks in
    (may.0, may.1, undone, lacks, unopening J legal p may.0 may.1 free row.0 row.1 row.2)
