use Rattle.hm_judge.proofs.Judging.{allows_step, allows_undo}
use Rattle.hm_judge.proofs.laws.evaluated_may_follow.Goals as goal

pub returns-clause-steps : goal.returns-clause-steps
returns-clause-steps c = allows_step

pub returns-clause-undos : goal.returns-clause-undos
returns-clause-undos c = allows_undo
