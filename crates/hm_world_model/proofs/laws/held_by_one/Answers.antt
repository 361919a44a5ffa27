use Rattle.hm_world_model.proofs.Opening.{held_by_one_is, kept_by_one}
use Rattle.hm_world_model.proofs.laws.held_by_one.Goals as goal

pub returns-clause-kept : goal.returns-clause-kept
returns-clause-kept c = kept_by_one

pub returns-clause-never : goal.returns-clause-never
returns-clause-never c = held_by_one_is
