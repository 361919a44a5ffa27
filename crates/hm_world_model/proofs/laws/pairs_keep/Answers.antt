use Rattle.hm_world_model.proofs.Pairs.{pairs_keep, pairs_never_twice, taken_over}
use Rattle.hm_world_model.proofs.laws.pairs_keep.Goals as goal

pub returns-clause-opened : goal.returns-clause-opened
returns-clause-opened c = taken_over

pub returns-clause-kept : goal.returns-clause-kept
returns-clause-kept c = pairs_keep

pub returns-clause-never : goal.returns-clause-never
returns-clause-never c = pairs_never_twice
