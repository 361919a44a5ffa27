use Rattle.hm_world_model.proofs.Points.{kept_never_twice, never_twice_is}
use Rattle.hm_world_model.proofs.laws.never_twice.Goals as goal

pub returns-clause-kept : goal.returns-clause-kept
returns-clause-kept c = kept_never_twice

pub returns-clause-never : goal.returns-clause-never
returns-clause-never c = never_twice_is
