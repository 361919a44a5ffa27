use Rattle.hm_tied.proofs.CallsIn.{exact}
use Rattle.hm_tied.proofs.bounds.available_are_ready.Goals as goal

pub returns : goal.returns
returns c = exact
