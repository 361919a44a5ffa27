-- How the procedures of a legal journal stand in their trees.
use Rattle.std.proofs.Common.{List, None, Option, Some, [], ap, false, inl, inr, refl, subst, sym, true, ℕ, ◌==◌, ◌∙◌, ◌∷◌, ◌≡◌, ◌≢◌}
use Rattle.std.proofs.lemmas.Bool.{cases_eq, cond-false, false≢true, ne_eqb}
use Rattle.hm_data.specs.declared.answer.Answer.{Answer}
use Rattle.hm_data.specs.declared.answer.Answer.TheVariants as answer_is
use Rattle.hm_data.specs.declared.entry.Entry.TheVariants as entry_is
use Rattle.hm_data.specs.declared.step.StepOut.{StepOut}
use Rattle.hm_names.specs.Server.{Server}
use Rattle.hm_names.specs.declared.pid.Pid.{Pid}
use Rattle.hm_data.specs.declared.entry.Entry.{Entry}
use Rattle.hm_model.proofs.Forms.{row_formed, undo_formed}
use Rattle.hm_model.proofs.Grown.{nodes_stay}
use Rattle.hm_model.proofs.Trees.{Grown, IsWaiting, grown_all, step_of}
use Rattle.hm_model.proofs.UndoMakes.{undo_of}
use Rattle.hm_model.specs.Answers.{is_aborted, is_stopped, last_answer}
use Rattle.hm_model.specs.Forest.{HasRoot, IsForest, IsWait, Stands}
use Rattle.hm_model.specs.Forms.{IsStepped, IsUndone}
use Rattle.hm_model.specs.Inputs.{step_input}
use Rattle.hm_model.specs.Journal.{Past}
use Rattle.hm_model.specs.Phase.{cause}
use Rattle.hm_model.specs.Rules.{IsLegal}
use Rattle.hm_model.specs.Tree.{Node, is_root, is_root_in, node_of}

-- whoever waits for children has answered so
wait_is : (last : Option Answer) → IsWaiting last → IsWait last
wait_is None h = absurd h
wait_is (Some (answer_is.More next)) h = absurd h
wait_is (Some (answer_is.Wait next)) h = (next, refl)
wait_is (Some (answer_is.Await next)) h = absurd h
wait_is (Some (answer_is.Done told)) h = absurd h
wait_is (Some (answer_is.Fail cause)) h = absurd h
wait_is (Some answer_is.Undone) h = absurd h

-- a root stays one
root_stays : (entry : Entry) (before : Past) → IsLegal (entry ∷ before) → (p : ℕ) → is_root before p ≡ true → is_root (entry ∷ before) p ≡ true
root_stays entry before legal p root = by (node_of before p) refl root
  where
    by : (o : Option Node) → node_of before p ≡ o → is_root_in o ≡ true → is_root (entry ∷ before) p ≡ true
    by None e h = absurd (false≢true h)
    by (Some x) e h = ap is_root_in (nodes_stay entry before legal p x e) ∙ h

-- only roots are aborted
aborted_roots : (J : Past) → IsLegal J → (p : ℕ) → is_aborted J p ≡ true → is_root J p ≡ true
aborted_roots [] legal p on = absurd (false≢true on)
aborted_roots (entry_is.Abort pid ∷ before) legal p on = elim (cases_eq p pid.0) [
  | inl same ↦ ap (is_root before) same ∙ legal.1.1.0.0
  | inr differs ↦ aborted_roots before legal.0 p (sym (cond-false (p == pid.0) true (is_aborted before p) (ne_eqb p pid.0 differs)) ∙ on)
]
aborted_roots (entry_is.Base part ∷ before) legal p on = absurd (false≢true on)
aborted_roots (entry ∷ before) legal p on = root_stays entry before legal p (aborted_roots before legal.0 p on)

stands_by : (J : Past) → Grown J → (p : ℕ) (node : Node) → node_of J p ≡ Some node → (above : List ℕ) → node.above ≡ above → Stands J p above node.root
stands_by J grown p node is [] e = grown.tops p node is e
stands_by J grown p node is (up ∷ above) e =
    let parent = grown.ups p node is up above e in
    (parent.0, parent.1, parent.2, parent.3, grown.later p node is up above e)

pub forest_all : (J : Past) → IsLegal J → IsForest J
forest_all J legal =
    let grown = grown_all J legal in
    record {
      stands = λ p node is. stands_by J grown p node is node.above refl;
      waits = λ p node up above is e running. wait_is (last_answer J up) (grown.waits p node is up above e running);
      aborted = aborted_roots J legal;
    }

-- what a step answers
pub steps_formed : (pid : Pid) (pick : Option Server) (out : StepOut) (before : Past) → IsLegal (entry_is.Step pid pick out ∷ before) → IsStepped out
steps_formed pid pick out before legal =
    let step = step_of pid pick out before (grown_all before legal.0) legal in
    subst IsStepped (sym step.out_is) (row_formed step.row (step_input before pid.0 step.node pick)).stepped

pub top_is_own : (J : Past) → IsForest J → (p : ℕ) (node : Node) → node_of J p ≡ Some node → node.above ≡ [] → node.root ≡ p
top_is_own J forest p node is top = subst (λ l. Stands J p l node.root) top (forest.stands p node is)

-- what undoes a step
pub undos_formed : (pid : Pid) (row : ℕ) (out : StepOut) (before : Past) → IsLegal (entry_is.Undo pid row out ∷ before) → IsUndone out
undos_formed pid row out before legal =
    let u = undo_of pid row out before legal in
    subst IsUndone (sym u.out_is) (undo_formed u.undo u.args u.root u.latest.edits)

-- the root of a procedure is there
rooted : (J : Past) → IsForest J → (above : List ℕ) (q : ℕ) (node : Node) → node_of J q ≡ Some node → node.above ≡ above → HasRoot J node
rooted J forest [] q node is up =
    let root = top_is_own J forest q node is up in
    record { root = node; there = ap (node_of J) root ∙ is; at_top = up; own = refl }
rooted J forest (a ∷ above) q node is up =
    let s = subst (λ l. Stands J q l node.root) up (forest.stands q node is) in
    let t = rooted J forest above a s.0 s.1 s.2 in
    record { root = t.root; there = ap (node_of J) (sym s.3) ∙ t.there; at_top = t.at_top; own = t.own ∙ s.3 }

pub rooted_all : (J : Past) → IsLegal J → (p : ℕ) (node : Node) → node_of J p ≡ Some node → HasRoot J node
rooted_all J legal p node is = rooted J (forest_all J legal) node.above p node is refl

-- while a descendant goes on, its root waits
root_waits : (J : Past) → IsForest J → (above : List ℕ) (q : ℕ) (node : Node) → node_of J q ≡ Some node → node.above ≡ above → above ≢ [] → is_stopped (last_answer J q) ≡ false → IsWait (last_answer J node.root)
root_waits J forest [] q node is up some running = absurd (some refl)
root_waits J forest (a ∷ []) q node is up some running =
    let s = subst (λ l. Stands J q l node.root) up (forest.stands q node is) in
    let root = top_is_own J forest a s.0 s.1 s.2 in
    subst (λ r. IsWait (last_answer J r)) (sym root ∙ s.3) (forest.waits q node a [] is up running)
root_waits J forest (a ∷ b ∷ above) q node is up some running =
    let s = subst (λ l. Stands J q l node.root) up (forest.stands q node is) in
    let w = forest.waits q node a (b ∷ above) is up running in
    subst (λ r. IsWait (last_answer J r)) s.3 (root_waits J forest (b ∷ above) a s.0 s.1 s.2 (λ e. cc) (ap is_stopped w.1))

pub roots_wait : (J : Past) → IsLegal J → (p : ℕ) (node : Node) → node_of J p ≡ Some node → node.above ≢ [] → is_stopped (last_answer J p) ≡ false → IsWait (last_answer J node.root)
roots_wait J legal p node is some running = root_waits J (forest_all J legal) node.above p node is refl some running
