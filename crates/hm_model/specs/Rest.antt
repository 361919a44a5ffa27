-- Which procedures may go on, and when none can.
use Rattle.std.specs.Prelude.{◌≡◌, ◌≢◌, ℕ, List, [], Some, None, true, ◌⊎◌}
use Rattle.hm_data.specs.declared.record.Phase.TheVariants as phase_is
use Rattle.hm_model.specs.Answers.{report_of}
use Rattle.hm_model.specs.Holding.{IsFree}
use Rattle.hm_model.specs.Inputs.{fenced_if, undoes}
use Rattle.hm_model.specs.Journal.{Past}
use Rattle.hm_model.specs.Locks.{IsIn}
use Rattle.hm_model.specs.Phase.{phase}
use Rattle.hm_model.specs.Picks.{has_pick}
use Rattle.hm_model.specs.Tree.{Node, node_of}
use Rattle.hm_model.specs.Whereabouts.{called_by}

-- the call of a procedure was answered, or goes to a server that is fenced
abbrev pub IsAnswered : Past → ℕ → Node → Type 0
IsAnswered before p node = (report_of before p ≢ None) ⊎ (fenced_if before (called_by node.args) ≡ true)

-- a step may be made of a procedure: it is runnable or answered. A failed root is neither.
abbrev pub IsReady : Past → ℕ → Node → Type 0
IsReady before p node =
    (phase before p node ≡ phase_is.Runnable) ⊎ ((phase before p node ≡ phase_is.Awaiting) × IsAnswered before p node)

-- a procedure may make a step
abbrev pub MayStep : Past → ℕ → Type 0
MayStep before p = (node : Node) × (node_of before p ≡ Some node) × IsReady before p node

-- it may make a step, and a server can be picked where one is needed
abbrev pub MayStepPicked : Past → ℕ → Type 0
MayStepPicked before p =
    (node : Node) × (node_of before p ≡ Some node) × IsReady before p node × (has_pick before p node ≡ true)

-- a failed root with its descendants ended and something left to undo
abbrev pub MayUndo : Past → ℕ → Type 0
MayUndo before p = (node : Node) × (node_of before p ≡ Some node) × (undoes before p node ≡ true)

-- a procedure may go on, where some are taken and some are claimed
abbrev pub IsAvailable : Past → List ℕ → List ℕ → ℕ → Type 0
IsAvailable before taken claimed p =
    (IsIn p claimed → ⊥) × IsFree before taken p × (MayStepPicked before p ⊎ MayUndo before p)

-- no procedure may go on, where none is claimed
abbrev pub IsAtRest : Past → Type 0
IsAtRest before = (p : ℕ) → IsAvailable before [] [] p → ⊥
