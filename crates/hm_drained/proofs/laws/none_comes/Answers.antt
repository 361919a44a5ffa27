use Rattle.hm_drained.proofs.Coming.{none_comes_is}
use Rattle.hm_drained.proofs.laws.none_comes.Goals as goal

pub returns : goal.returns
returns c = none_comes_is
