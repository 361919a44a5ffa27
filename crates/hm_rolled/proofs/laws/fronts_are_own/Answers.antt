use Rattle.hm_rolled.proofs.Fronts.{fronts_are_own}
use Rattle.hm_rolled.proofs.laws.fronts_are_own.Goals as goal

pub returns : goal.returns
returns c = fronts_are_own
