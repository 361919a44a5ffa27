-- A step conflicts with nobody that holds what it asks for.
use Rattle.std.proofs.Common.{◌≡◌, ◌≢◌, ℕ, List, [], ◌∷◌, false, cond, Option, Some, refl, ap, sym, ◌∙◌, subst, inl, inr}
use Rattle.std.proofs.lemmas.Bool.{cases_eq}
use Rattle.hm_names.specs.Server.{Server}
use Rattle.hm_names.specs.declared.pid.Pid.{Pid}
use Rattle.hm_data.specs.declared.entry.Entry.TheVariants as entry_is
use Rattle.hm_data.specs.declared.step.StepOut.{StepOut}
use Rattle.hm_model.specs.Answers.{is_stopped, last_answer}
use Rattle.hm_model.specs.Holding.{IsFree}
use Rattle.hm_model.specs.Journal.{Past}
use Rattle.hm_model.specs.Locks.{AsksClash, Clash, IsAbove, IsIn, asks}
use Rattle.hm_model.specs.Phase.{ended_node, root_ended}
use Rattle.hm_model.specs.Rules.{IsLegal}
use Rattle.hm_model.specs.Tree.{Node, is_top, node_of}
use Rattle.hm_model.proofs.LegalSteps.{StepFacts, ready_stops}
use Rattle.hm_model.proofs.Trees.{grown_all, some_of, step_of}
use Rattle.hm_model.proofs.Kin.{kin_clash}
use Rattle.hm_model.proofs.Transits.{root_above}
use Rattle.hm_model.proofs.Small.{cons_nil}

-- who steps conflicts with none that holds
pub step_free : (pid : Pid) (pick : Option Server) (out : StepOut) (J : Past) → IsLegal (entry_is.Step pid pick out ∷ J) → IsFree J [] pid.0
step_free pid pick out J legal q holds conflict = elim (cases_eq step.node.root other.0.root) [
  | inr apart ↦ legal.1.1.1.0 q holds conflict
  | inl kin ↦ by kin step.node.above refl other.0.above refl
]
  where
    step : StepFacts J pid.0 pick out
    step = step_of pid pick out J (grown_all J legal.0) legal

    other : (y : Node) × (node_of J q ≡ Some y)
    other = some_of (node_of J q) holds.0

    clash : Clash (asks step.node.args) (asks other.0.args)
    clash = subst (AsksClash (Some step.node)) other.1 (subst (λ o. AsksClash o (node_of J q)) step.node_is conflict.1.2)

    -- a root is above all others of its tree
    above_all : (r s : ℕ) (x y : Node) → node_of J r ≡ Some x → node_of J s ≡ Some y → x.root ≡ y.root → x.above ≡ [] → r ≢ s → IsAbove r (node_of J s)
    above_all r s x y is there root top differs =
        let own = (grown_all J legal.0).tops r x is top in
        subst (IsAbove r) (sym there) (subst (λ k. IsIn k y.above) (sym root ∙ own) (root_above J (grown_all J legal.0) y.above s y there refl (λ none. differs (sym own ∙ root ∙ (grown_all J legal.0).tops s y there none))))

    low_runs : (u : ℕ) (rest : List ℕ) → other.0.above ≡ u ∷ rest → is_stopped (last_answer J q) ≡ false
    low_runs u rest e = sym (ap (ended_node J q) other.1 ∙ ap (λ a. cond (is_top a) (root_ended J q) (is_stopped (last_answer J q))) e) ∙ holds.1

    by : step.node.root ≡ other.0.root → (above : List ℕ) → step.node.above ≡ above → (below : List ℕ) → other.0.above ≡ below → ⊥
    by kin [] e below k = conflict.1.0 (above_all pid.0 q step.node other.0 step.node_is other.1 kin e conflict.0)
    by kin (u ∷ rest) e [] k = conflict.1.1 (above_all q pid.0 other.0 step.node other.1 step.node_is (sym kin) k (λ same. conflict.0 (sym same)))
    by kin (u ∷ rest) e (v ∷ more) k =
        conflict.0 (kin_clash J legal.0 pid.0 q step.node other.0 step.node_is other.1 kin (λ none. cons_nil u rest (sym e ∙ none)) (λ none. cons_nil v more (sym k ∙ none)) (ready_stops J pid.0 step.node (last_answer J pid.0) step.ready) (low_runs v more k) clash)
