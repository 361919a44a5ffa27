use Rattle.hm_tied.proofs.Calls.{exact}
use Rattle.hm_tied.proofs.laws.available_are_ready.Goals as goal

pub returns : goal.returns
returns c = exact
