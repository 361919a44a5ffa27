use Rattle.hm_drained.proofs.Empty.{drained_empty}
use Rattle.hm_drained.proofs.laws.drained_are_empty.Goals as goal

pub returns : goal.returns
returns c = drained_empty
