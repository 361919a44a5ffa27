use Rattle.hm_model.proofs.Taken.{legal_apart, none_conflict_is}
use Rattle.hm_model.proofs.laws.none_conflict.Goals as goal

pub returns-clause-legal : goal.returns-clause-legal
returns-clause-legal c = legal_apart

pub returns-clause-taken : goal.returns-clause-taken
returns-clause-taken c = none_conflict_is
