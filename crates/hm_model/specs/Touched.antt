-- Who may come to go on, and who may end, by a step: laws.
use Rattle.std.specs.Prelude.{None, Option, Some, true, ℕ, ◌∷◌, ◌≡◌, ◌≢◌, ◌⊎◌}
use Rattle.hm_data.specs.declared.entry.Entry.TheVariants as entry_is
use Rattle.hm_data.specs.declared.step.StepOut.{StepOut}
use Rattle.hm_names.specs.Server.{Server}
use Rattle.hm_names.specs.declared.pid.Pid.{Pid}
use Rattle.hm_model.specs.Journal.{Past}
use Rattle.hm_model.specs.Phase.{ended, is_parent}
use Rattle.hm_model.specs.Rest.{MayStep, MayUndo}
use Rattle.hm_model.specs.Rules.{IsLegal}
use Rattle.hm_model.specs.Tree.{Node, node_of}

-- the procedure, its parent, and its root
abbrev pub IsTouched : ℕ → Node → ℕ → Type 0
IsTouched p node q = (q ≡ p) ⊎ ((is_parent q node.above ≡ true) ⊎ (q ≡ node.root))

-- of those that were there only a step's procedure, its parent and its root may come to go on by it
abbrev pub StepsLetGo : Type 0
StepsLetGo =
    (pid : Pid) (pick : Option Server) (out : StepOut) (before : Past) → IsLegal (entry_is.Step pid pick out ∷ before)
    → (me : Node) → node_of before pid.0 ≡ Some me → (q : ℕ) → node_of before q ≢ None
    → (MayStep (entry_is.Step pid pick out ∷ before) q → MayStep before q ⊎ IsTouched pid.0 me q)
    × (MayUndo (entry_is.Step pid pick out ∷ before) q → MayUndo before q ⊎ IsTouched pid.0 me q)

-- only the procedure and its root may end by it, and what has ended stays so
abbrev pub StepsEnd : Type 0
StepsEnd =
    (pid : Pid) (pick : Option Server) (out : StepOut) (before : Past) → IsLegal (entry_is.Step pid pick out ∷ before)
    → (me : Node) → node_of before pid.0 ≡ Some me → (q : ℕ) → node_of before q ≢ None
    → (ended (entry_is.Step pid pick out ∷ before) q ≡ ended before q) ⊎ ((q ≡ pid.0) ⊎ (q ≡ me.root))
