use Rattle.hm_tied.proofs.Others.{up_owes}
use Rattle.hm_tied.proofs.laws.servers_owe.Goals as goal

pub returns : goal.returns
returns c = up_owes
