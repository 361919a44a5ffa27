-- No two roots that hold ask for what clashes, since each step is free of those who hold.
use Rattle.std.proofs.Common.{◌≡◌, ◌≢◌, ℕ, [], ◌∷◌, Option, refl, ap, sym, ◌∙◌, subst, inl, inr, ◌⊎◌}
use Rattle.std.proofs.lemmas.Bool.{cases_eq}
use Rattle.hm_names.specs.Server.{Server}
use Rattle.hm_names.specs.declared.pid.Pid.{Pid}
use Rattle.hm_data.specs.declared.entry.Entry.{Entry}
use Rattle.hm_data.specs.declared.entry.Entry.TheVariants as entry_is
use Rattle.hm_data.specs.declared.step.StepOut.{StepOut}
use Rattle.hm_model.specs.Answers.{last_answer}
use Rattle.hm_model.specs.Holding.{InConflict}
use Rattle.hm_model.specs.Journal.{Past}
use Rattle.hm_model.specs.Locks.{Clash, asks}
use Rattle.hm_model.specs.Rules.{IsLegal}
use Rattle.hm_model.specs.Tree.{Node, root_in, root_of}
use Rattle.hm_model.proofs.LegalSteps.{ready_stops}
use Rattle.hm_model.proofs.Trees.{grown_all, step_of}
use Rattle.hm_model.proofs.Free.{step_free}
use Rattle.hm_model.proofs.Taken.{clash_sym}
use Rattle.hm_model.proofs.Tops.{TopHolds, TopIs, caused_begun, held, held_or, holds_with, root_begun, step_open, tops_conflict, undo_facts, undo_open}

-- no two roots that hold ask for what clashes
abbrev pub Apart : Past → Type 0
Apart J = (s t : ℕ) (x y : Node) → TopHolds J s x → TopHolds J t y → s ≢ t → Clash (asks x.args) (asks y.args) → ⊥

apart_step : (pid : Pid) (pick : Option Server) (out : StepOut) (J : Past) → IsLegal (entry_is.Step pid pick out ∷ J) → Apart J → Apart (entry_is.Step pid pick out ∷ J)
apart_step pid pick out J legal apart s t x y h k differs clash = by (held_or pid pick out J legal s x h) (held_or pid pick out J legal t y k)
  where
    by : TopHolds J s x ⊎ ((s ≡ pid.0) × TopIs J s x) → TopHolds J t y ⊎ ((t ≡ pid.0) × TopIs J t y) → ⊥
    by (inl a) (inl b) = apart s t x y a b differs clash
    by (inl a) (inr b) = step_free pid pick out J legal s (holds_with J s x a) (subst (λ p. InConflict J p s) b.0 (tops_conflict J t s y x b.1 a.0 (λ e. differs (sym e)) (clash_sym (asks x.args) (asks y.args) clash)))
    by (inr a) (inl b) = step_free pid pick out J legal t (holds_with J t y b) (subst (λ p. InConflict J p t) a.0 (tops_conflict J s t x y a.1 b.0 differs clash))
    by (inr a) (inr b) = differs (a.0 ∙ sym b.0)

apart_same : (entry : Entry) (J : Past) → IsLegal (entry ∷ J) → ((s : ℕ) → last_answer (entry ∷ J) s ≡ last_answer J s) → Apart J → Apart (entry ∷ J)
apart_same entry J legal same apart s t x y h k = apart s t x y (held entry J legal s x h (same s)) (held entry J legal t y k (same t))

pub apart_all : (J : Past) → IsLegal J → Apart J
apart_all [] legal = λ s t x y h k differs clash. h.1 refl
apart_all (entry_is.Step pid pick out ∷ J) legal = apart_step pid pick out J legal (apart_all J legal.0)
apart_all (entry_is.Base part ∷ J) legal = λ s t x y h k differs clash. h.1 refl
apart_all (entry ∷ J) legal = apart_same entry J legal (λ s. refl) (apart_all J legal.0)

-- who holds doesn't clash with the root of a tree in which a step is made
pub step_apart : (pid : Pid) (pick : Option Server) (out : StepOut) (J : Past) → IsLegal (entry_is.Step pid pick out ∷ J) → (top : Node) → TopIs J (root_of J pid.0) top → (q : ℕ) (y : Node) → TopHolds J q y → q ≢ root_of J pid.0 → Clash (asks top.args) (asks y.args) → ⊥
step_apart pid pick out J legal top top_is q y h other clash =
    let step = step_of pid pick out J (grown_all J legal.0) legal in
    let root : root_of J pid.0 ≡ step.node.root = ap root_in step.node_is in
    elim (cases_eq pid.0 (root_of J pid.0)) [
      | inr below ↦
          let begun = root_begun J legal.0 pid.0 step.node step.node_is (ready_stops J pid.0 step.node (last_answer J pid.0) step.ready) (λ e. below (e ∙ sym root)) in
          apart_all J legal.0 (root_of J pid.0) q top y (top_is, (λ none. begun (ap (last_answer J) (sym root) ∙ none)), step_open pid pick out J legal) h (λ e. other (sym e)) clash
      | inl mine ↦ step_free pid pick out J legal q (holds_with J q y h) (subst (λ p. InConflict J p q) (sym mine) (tops_conflict J (root_of J pid.0) q top y top_is h.0 (λ e. other (sym e)) clash))
    ]

-- nor with the root of one in which a step is undone
pub undo_apart : (pid : Pid) (row : ℕ) (out : StepOut) (J : Past) → IsLegal (entry_is.Undo pid row out ∷ J) → (top : Node) → TopIs J (root_of J pid.0) top → (q : ℕ) (y : Node) → TopHolds J q y → q ≢ root_of J pid.0 → Clash (asks top.args) (asks y.args) → ⊥
undo_apart pid row out J legal top top_is q y h other clash =
    let f = undo_facts pid row out J legal in
    apart_all J legal.0 (root_of J pid.0) q top y (top_is, caused_begun J legal.0 (root_of J pid.0) f.2 f.3, undo_open pid row out J legal) h (λ e. other (sym e)) clash
