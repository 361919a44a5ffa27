use Rattle.hm_judge.proofs.Choosing.{candidates_fit, candidates_there}
use Rattle.hm_judge.proofs.laws.candidates_fit.Goals as goal

pub returns-clause-fit : goal.returns-clause-fit
returns-clause-fit c = candidates_fit

pub returns-clause-there : goal.returns-clause-there
returns-clause-there c = candidates_there
