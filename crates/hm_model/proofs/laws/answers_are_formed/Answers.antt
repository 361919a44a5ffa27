use Rattle.hm_model.proofs.Forest.{steps_formed, undos_formed}
use Rattle.hm_model.proofs.laws.answers_are_formed.Goals as goal

pub returns-clause-steps : goal.returns-clause-steps
returns-clause-steps c = steps_formed

pub returns-clause-undos : goal.returns-clause-undos
returns-clause-undos c = undos_formed
