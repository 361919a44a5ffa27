use Rattle.hm_tied.proofs.OthersIn.{up_owes}
use Rattle.hm_tied.proofs.bounds.servers_owe.Goals as goal

pub returns : goal.returns
returns c = up_owes
