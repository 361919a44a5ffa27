use Rattle.hm_locks.proofs.Ties.{clash_is_conflict}
use Rattle.hm_locks.proofs.laws.clashes_are_conflicts.Goals as goal

pub returns : goal.returns
returns c = clash_is_conflict
