use Rattle.hm_tied.proofs.Stepping.{step_owes}
use Rattle.hm_tied.proofs.laws.steps_owe.Goals as goal

pub returns : goal.returns
returns c = step_owes
