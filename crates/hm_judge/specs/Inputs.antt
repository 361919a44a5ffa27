-- What the next call of a procedure's handler sees, and when it can be made.
use Rattle.std.specs.Prelude.{◌≡◌, ℕ, Option, Some, ◌⊎◌}
use Rattle.hm_names.specs.Server.{Server}
use Rattle.hm_names.specs.declared.pid.Pid.{Pid}
use Rattle.hm_data.specs.declared.record.Record.{Record}
use Rattle.hm_data.specs.declared.step.StepIn.{StepIn}
use Rattle.hm_data.specs.declared.step.Turn.TheVariants as turn_is
use Rattle.hm_model.specs.Answers.{report_of}
use Rattle.hm_model.specs.Inputs.{ends_of, input, place_if, regions_on, rows_read, sees_fenced}
use Rattle.hm_model.specs.Journal.{Past}
use Rattle.hm_model.specs.Picks.{PicksRight}
use Rattle.hm_model.specs.Rest.{MayStep, MayUndo}
use Rattle.hm_model.specs.Tree.{Node, node_of}
use Rattle.hm_model.specs.Whereabouts.{crashed_in, moved_by}

-- what the next call of a procedure's handler sees, by the procedure's number and the pick
abbrev pub IsInput : Past → ℕ → Option Server → StepIn → Type 0
IsInput before p pick at = (node : Node) → node_of before p ≡ Some node → at ≡ input before p node pick

-- a procedure's handler can be called: it may make a step with this pick, or is undone
abbrev pub CanEvaluate : Past → ℕ → Option Server → Type 0
CanEvaluate before p pick = (MayStep before p × PicksRight before p pick) ⊎ MayUndo before p

-- what a step of a procedure sees, by the procedure as it is shown
abbrev pub seen_by : Past → Pid → Record → Option Server → StepIn
seen_by before pid its pick = record {
  pid = pid;
  root = its.root;
  kind = its.kind;
  edition = its.edition;
  row = its.row;
  args = its.args;
  tries = its.tries;
  rows = rows_read before its.args;
  ends = ends_of before pid.0;
  report = report_of before pid.0;
  place = place_if before (moved_by its.args);
  fenced = sees_fenced before its.args;
  on_server = regions_on before (crashed_in its.args);
  pick = pick;
  aborted = its.aborted;
  turn = turn_is.Step;
}
