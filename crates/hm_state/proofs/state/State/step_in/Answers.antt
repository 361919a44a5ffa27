use Rattle.std.proofs.Common.{IfOk, subst}
use Rattle.std.specs.Option.{option_copied}
use Rattle.hm_model.specs.Editions.{sheets_in}
use Rattle.hm_model.specs.Evaluation.{CanRun}
use Rattle.hm_judge.specs.Inputs.{CanEvaluate}
use Rattle.hm_state.specs.State.{StateView}
use Rattle.hm_state.proofs.state.State.step_in.Goals as goal

pub returns-clause-runs : goal.returns-clause-runs
returns-clause-runs c =
    subst (λ (s : StateView). IfOk c.step_in.result (λ at. CanEvaluate s.past c.args.pid.0 (option_copied c.args.pick) → CanRun (sheets_in s.past at.edition) at))
    c.self.view_is c.step_in.ensures.runs
