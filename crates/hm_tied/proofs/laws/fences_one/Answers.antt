use Rattle.hm_tied.proofs.Uses.{fences_one}
use Rattle.hm_tied.proofs.laws.fences_one.Goals as goal

pub returns : goal.returns
returns c = fences_one
