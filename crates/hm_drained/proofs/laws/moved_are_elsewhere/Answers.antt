use Rattle.hm_drained.proofs.Leaving.{moved_elsewhere}
use Rattle.hm_drained.proofs.laws.moved_are_elsewhere.Goals as goal

pub returns : goal.returns
returns c = moved_elsewhere
