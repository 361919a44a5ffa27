use Rattle.hm_judge.proofs.Fresh.{fresh_steps, fresh_undos}
use Rattle.hm_judge.proofs.laws.fresh_answers_follow.Goals as goal

pub returns-clause-steps : goal.returns-clause-steps
returns-clause-steps c = fresh_steps

pub returns-clause-undos : goal.returns-clause-undos
returns-clause-undos c = fresh_undos
