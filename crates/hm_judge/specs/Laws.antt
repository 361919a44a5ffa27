-- What judging tells: laws.
use Rattle.std.specs.Prelude.{◌≡◌, ℕ, Option, Some, None, IsSome, true}
use Rattle.hm_names.specs.Server.{Server}
use Rattle.hm_names.specs.declared.pid.Pid.{Pid}
use Rattle.hm_data.specs.declared.entry.Entry.TheVariants as entry_is
use Rattle.hm_data.specs.declared.step.StepOut.{StepOut}
use Rattle.hm_model.specs.Inputs.{IsEvaluated}
use Rattle.hm_model.specs.Journal.{Past}
use Rattle.hm_model.specs.Picks.{PicksRight, has_pick, is_another, needs_server}
use Rattle.hm_model.specs.Places.{tries_of}
use Rattle.hm_model.specs.Rules.{Allowed, IsLegal}
use Rattle.hm_model.specs.Tree.{Node, node_of, root_of}
use Rattle.hm_model.specs.Wanted.{wanted_of}
use Rattle.hm_model.specs.Choice.{candidate, place_told, wanted_first}
use Rattle.hm_judge.specs.Judge.{HoldsBut}

-- a step whose other rules hold, and that is as it was evaluated, may follow
abbrev pub EvaluatedStepsFollow : Type 0
EvaluatedStepsFollow =
    (before : Past) (pid : Pid) (pick : Option Server) (out : StepOut) → HoldsBut before (entry_is.Step pid pick out)
    → IsEvaluated before pid.0 pick out → Allowed before (entry_is.Step pid pick out)

-- so may what undoes one
abbrev pub EvaluatedUndosFollow : Type 0
EvaluatedUndosFollow =
    (before : Past) (pid : Pid) (row : ℕ) (out : StepOut) → HoldsBut before (entry_is.Undo pid row out)
    → IsEvaluated before (root_of before pid.0) None out → Allowed before (entry_is.Undo pid row out)

-- what is picked for a procedure's next step fits, where one that is wanted on the first try isn't the one that failed
abbrev pub CandidatesFit : Type 0
CandidatesFit =
    (J : Past) (p : ℕ) (node : Node) → IsLegal J → node_of J p ≡ Some node → has_pick J p node ≡ true
    → ((wanted : Server) → wanted_first J (wanted_of node.args) (tries_of J p) ≡ Some wanted → is_another J (place_told J node.args) wanted ≡ true)
    → PicksRight J p (candidate J p node)

-- a server is picked where one is needed and one is live
abbrev pub CandidatesAreThere : Type 0
CandidatesAreThere =
    (J : Past) (p : ℕ) (node : Node) → has_pick J p node ≡ true → needs_server J p node ≡ true → IsSome (candidate J p node)
