-- What a handler answered to an input that is its procedure's still may follow: laws.
use Rattle.std.specs.Prelude.{◌≡◌, List, [], Some, ◌⊎◌}
use Rattle.hm_names.specs.declared.pid.Pid.{Pid}
use Rattle.hm_data.specs.declared.catalog.Edit.{Edit}
use Rattle.hm_data.specs.declared.entry.Entry.TheVariants as entry_is
use Rattle.hm_data.specs.declared.step.StepIn.{StepIn}
use Rattle.hm_data.specs.declared.step.StepOut.{StepOut}
use Rattle.hm_data.specs.declared.step.Turn.TheVariants as turn_is
use Rattle.hm_model.specs.Evaluation.{answer_of}
use Rattle.hm_model.specs.Holding.{IsFree}
use Rattle.hm_model.specs.Inputs.{input}
use Rattle.hm_model.specs.Journal.{Past}
use Rattle.hm_model.specs.Picks.{PicksRight}
use Rattle.hm_model.specs.Rest.{MayStep, MayUndo}
use Rattle.hm_model.specs.Rules.{Allowed, IsLegal}
use Rattle.hm_model.specs.Sheets.{sheets_by}
use Rattle.hm_model.specs.Tree.{Node, node_of, root_of}

-- what a handler answered to a step that is its procedure's still, with a pick that fits, may follow where the procedure can
-- go on and nobody stands in its way
abbrev pub FreshStepsFollow : Type 0
FreshStepsFollow =
    (J : Past) (pid : Pid) (node : Node) (was : StepIn) (out : StepOut) → IsLegal J → node_of J pid.0 ≡ Some node
    → (MayStep J pid.0 ⊎ MayUndo J pid.0) → PicksRight J pid.0 was.pick → was ≡ input J pid.0 node was.pick
    → was.turn ≡ turn_is.Step → IsFree J [] pid.0 → answer_of (sheets_by J node.root) was ≡ Some out
    → Allowed J (entry_is.Step pid was.pick out)

-- so may what undoes a step
abbrev pub FreshUndosFollow : Type 0
FreshUndosFollow =
    (J : Past) (pid : Pid) (node : Node) (was : StepIn) (edits : List Edit) (out : StepOut) → IsLegal J
    → node_of J pid.0 ≡ Some node → (MayStep J pid.0 ⊎ MayUndo J pid.0) → PicksRight J pid.0 was.pick
    → was ≡ input J pid.0 node was.pick → was.turn ≡ turn_is.Undo edits
    → answer_of (sheets_by J node.root) was ≡ Some out
    → Allowed J (entry_is.Undo was.pid was.row out) × (root_of J was.pid.0 ≡ pid.0)
