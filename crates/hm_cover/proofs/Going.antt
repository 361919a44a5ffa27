-- A root that holds goes on, or its tree has failed.
use Rattle.std.proofs.Common.{◌≡◌, ◌≢◌, ℕ, ◌==◌, List, [], ◌∷◌, Bool, false, Option, Some, None, refl, ap, sym, ◌∙◌, subst, inl, inr, ◌⊎◌}
use Rattle.std.proofs.lemmas.Bool.{cases_eq, cond-true, eq-eqb, true≢false}
use Rattle.std.proofs.lemmas.Option.{none-some}
use Rattle.hm_names.specs.Server.{Server}
use Rattle.hm_names.specs.declared.pid.Pid.{Pid}
use Rattle.hm_data.specs.declared.answer.Answer.{Answer}
use Rattle.hm_data.specs.declared.answer.Answer.TheVariants as answer_is
use Rattle.hm_data.specs.declared.answer.Cause.{Cause}
use Rattle.hm_data.specs.declared.entry.Entry.TheVariants as entry_is
use Rattle.hm_data.specs.declared.step.StepOut.{StepOut}
use Rattle.hm_model.specs.Answers.{done_with, failing, is_stopped, last_answer}
use Rattle.hm_model.specs.Journal.{Past}
use Rattle.hm_model.specs.Phase.{cause, or_else, rolled_back, root_over}
use Rattle.hm_model.specs.Rules.{IsLegal}
use Rattle.hm_model.specs.Tree.{Node, is_top, root_in, root_of}
use Rattle.hm_model.proofs.LegalSteps.{StepFacts, ready_stops}
use Rattle.hm_model.proofs.StepDoes.{Does, IsStepAnswer}
use Rattle.hm_model.proofs.Trees.{answer_now, does_of, down_rooted, grown_all, other_answer, start_none, step_of, submit_rooted}
use Rattle.hm_serial.proofs.Apart.{step_top}
use Rattle.hm_serial.proofs.FallAll.{held_before, falls_all, step_aside, undo_back}
use Rattle.hm_serial.proofs.Fallen.{some_cons}
use Rattle.hm_serial.proofs.FallStep.{kid_not_root}
use Rattle.hm_model.proofs.Tops.{TopHolds}
use Rattle.hm_serial.proofs.Standing.{holds_left, live_child, step_left, waiting_runs}

abbrev pub Goes : Past → ℕ → Type 0
Goes J r = (is_stopped (last_answer J r) ≡ false) ⊎ (cause J r ≢ None)

-- a root without a failure that hasn't ended goes on
open_goes : (o : Option Cause) (answer : Answer) (rolled : Bool) → IsStepAnswer answer → root_over o rolled (done_with (Some answer)) ≡ false → o ≡ failing answer → (is_stopped (Some answer) ≡ false) ⊎ (o ≢ None)
open_goes (Some c) answer rolled sound open_still e = inr (λ none. none-some c (sym none))
open_goes None (answer_is.More n) rolled sound open_still e = inl refl
open_goes None (answer_is.Wait n) rolled sound open_still e = inl refl
open_goes None (answer_is.Await n) rolled sound open_still e = inl refl
open_goes None (answer_is.Done told) rolled sound open_still e = absurd (true≢false open_still)
open_goes None (answer_is.Fail c) rolled sound open_still e = absurd (none-some c e)
open_goes None answer_is.Undone rolled sound open_still e = absurd sound

module _ (pid : Pid) (pick : Option Server) (out : StepOut) (J : Past) (legal : IsLegal (entry_is.Step pid pick out ∷ J)) where
  abbrev made : StepFacts J pid.0 pick out
  made = step_of pid pick out J (grown_all J legal.0) legal

  abbrev does : Does J pid.0 made.node.args (last_answer J pid.0) made.sheet.rows out
  does = does_of pid pick out J (grown_all J legal.0) made

  own_goes : (node : Node) → TopHolds (entry_is.Step pid pick out ∷ J) made.node.root node → Goes (entry_is.Step pid pick out ∷ J) made.node.root
  own_goes node h = by made.node.above refl
    where
      by : (above : List ℕ) → made.node.above ≡ above → Goes (entry_is.Step pid pick out ∷ J) made.node.root
      by [] e =
          let root = (grown_all J legal.0).tops pid.0 made.node made.node_is e in
          let last : last_answer (entry_is.Step pid pick out ∷ J) made.node.root ≡ Some out.answer = ap (last_answer (entry_is.Step pid pick out ∷ J)) root ∙ answer_now pid pick out J in
          let caused : cause (entry_is.Step pid pick out ∷ J) made.node.root ≡ failing out.answer =
          cond-true (root_of J pid.0 == made.node.root) (or_else (cause J made.node.root) (failing out.answer)) (cause J made.node.root) (eq-eqb (root_of J pid.0) made.node.root (ap root_in made.node_is))
          ∙ ap (λ c. or_else c (failing out.answer)) (ap (cause J) root ∙ made.uncaused (ap is_top e)) in
          subst (λ o. (is_stopped o ≡ false) ⊎ (cause (entry_is.Step pid pick out ∷ J) made.node.root ≢ None)) (sym last)
          (open_goes (cause (entry_is.Step pid pick out ∷ J) made.node.root) out.answer (rolled_back (entry_is.Step pid pick out ∷ J) made.node.root) does.sound (ap (λ o. root_over (cause (entry_is.Step pid pick out ∷ J) made.node.root) (rolled_back (entry_is.Step pid pick out ∷ J) made.node.root) (done_with o)) (sym last) ∙ h.2) caused)
      by (u ∷ rest) e =
          let kid : made.node.above ≢ [] = (λ none. some_cons u rest (sym e ∙ none)) in
          let live = live_child J (grown_all J legal.0) made.node.above pid.0 made.node made.node_is refl kid (ready_stops J pid.0 made.node (last_answer J pid.0) made.ready) in
          let all = falls_all J legal.0 in
          let differs = kid_not_root pid pick out J (grown_all J legal.0) all.falls made does (step_aside pid pick out J legal all) kid in
          inl (ap is_stopped (other_answer pid pick out J made.node.root differs) ∙ waiting_runs (last_answer J made.node.root) live.5)

  step_goes : ((r : ℕ) (node : Node) → TopHolds J r node → Goes J r) → (r : ℕ) (node : Node) → TopHolds (entry_is.Step pid pick out ∷ J) r node → Goes (entry_is.Step pid pick out ∷ J) r
  step_goes before r node h = elim (cases_eq r made.node.root) [
    | inl same ↦ subst (Goes (entry_is.Step pid pick out ∷ J)) (sym same) (own_goes node (subst (λ k. TopHolds (entry_is.Step pid pick out ∷ J) k node) same h))
    | inr differs ↦
        let left = step_left pid pick out J (grown_all J legal.0) made does r node (step_top pid pick out J made r node h.0) differs in
        elim (before r node (holds_left J (entry_is.Step pid pick out ∷ J) r node left h)) [
          | inl runs ↦ inl (ap is_stopped left.last ∙ runs)
          | inr failed ↦ inr (λ none. failed (sym left.cause_is ∙ none))
        ]
  ]

-- in every legal journal
pub goes_all : (J : Past) → IsLegal J → (r : ℕ) (node : Node) → TopHolds J r node → Goes J r
goes_all [] legal r node h = absurd (none-some node h.0.0)
goes_all (entry_is.Start sheets ∷ J) legal r node h = absurd (none-some node (sym (start_none J legal.1.0.0 r) ∙ h.0.0))
goes_all (entry_is.Submit nonce request ∷ J) legal r node h = goes_all J legal.0 r node (held_before J (entry_is.Submit nonce request ∷ J) (submit_rooted nonce request J (grown_all J legal.0)) (grown_all J legal.0) r node refl refl refl h)
goes_all (entry_is.Step pid pick out ∷ J) legal r node h = step_goes pid pick out J legal (goes_all J legal.0) r node h
goes_all (entry_is.Undo pid row out ∷ J) legal r node h = goes_all J legal.0 r node (undo_back pid row out J legal (grown_all J legal.0) (falls_all J legal.0).falls r node h)
goes_all (entry_is.Down server ∷ J) legal r node h = goes_all J legal.0 r node (held_before J (entry_is.Down server ∷ J) (down_rooted server J (grown_all J legal.0)) (grown_all J legal.0) r node refl refl refl h)
goes_all (entry_is.Base part ∷ J) legal r node h = absurd (none-some node h.0.0)
goes_all (entry ∷ J) legal r node h = goes_all J legal.0 r node h
