-- Who can go on, and has no pick, may make a step for which there is none.
use Rattle.std.proofs.Common.{◌≡◌, ℕ, Some, false, not, ◌||◌, inl, inr, ap, sym, ◌∙◌}
use Rattle.std.proofs.lemmas.Bool.{true≢false}
use Rattle.hm_model.specs.Fleet.{has_live}
use Rattle.hm_model.specs.Journal.{Past}
use Rattle.hm_model.specs.Picks.{has_pick}
use Rattle.hm_model.specs.Rest.{MayStep, MayStepPicked}
use Rattle.hm_model.specs.Rules.{IsLegal}
use Rattle.hm_model.specs.Tree.{Node, node_of}
use Rattle.hm_judge.proofs.Picking.{needs_none}
use Rattle.hm_tied.specs.Tied.{CanGo}

pub lacks : (J : Past) → IsLegal J → (p : ℕ) → CanGo J p → ((node : Node) → node_of J p ≡ Some node → has_pick J p node ≡ false) → MayStep J p × (MayStepPicked J p → ⊥)
lacks J legal p (inl may) none = (may, λ picked. true≢false (sym picked.3 ∙ none picked.0 picked.1))
lacks J legal p (inr undo) none = absurd (true≢false (sym (ap (λ b. not b || has_live J) (needs_none J legal p undo.0 undo.2)) ∙ none undo.0 undo.1))
