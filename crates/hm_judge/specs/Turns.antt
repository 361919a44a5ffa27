-- What undoing the latest step of a failed root sees.
use Rattle.std.specs.Prelude.{◌≡◌, ℕ, List, ◌∷◌, Some}
use Rattle.hm_data.specs.declared.step.StepIn.{StepIn}
use Rattle.hm_data.specs.declared.step.Turn.TheVariants as turn_is
use Rattle.hm_model.specs.Journal.{Past}
use Rattle.hm_model.specs.Kinds.{kind_of}
use Rattle.hm_model.specs.Tree.{Node, node_of, pid_of}
use Rattle.hm_model.specs.Undo.{Undoable, stack}
use Rattle.hm_judge.specs.declared.turns.Latest.{Latest}

-- a step that can be undone, with its procedure
abbrev pub shown_as : Undoable → Node → Latest
shown_as step its = record {
  pid = pid_of step.pid;
  kind = kind_of its.args;
  row = step.row;
  args = its.args;
  edits = step.edits;
}

-- it is the latest step of a root's tree that can be undone
abbrev pub IsLatestOf : Past → ℕ → Latest → Type 0
IsLatestOf before root latest =
    (step : Undoable) × (below : List Undoable) × (stack before root ≡ step ∷ below)
    × (its : Node) × (node_of before step.pid ≡ Some its) × (latest ≡ shown_as step its)

-- what undoing a step sees, in place of a step of its root
abbrev pub turned_to : StepIn → Latest → StepIn
turned_to at latest =
    record at { pid = latest.pid; kind = latest.kind; row = latest.row; args = latest.args; turn = turn_is.Undo latest.edits }
