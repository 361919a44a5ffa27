use Rattle.hm_tied.proofs.SteppingIn.{step_owes}
use Rattle.hm_tied.proofs.bounds.steps_owe.Goals as goal

pub returns : goal.returns
returns c = step_owes
