use Rattle.hm_tied.proofs.CallsIn.{next_owes}
use Rattle.hm_tied.proofs.bounds.nexts_owe.Goals as goal

pub returns : goal.returns
returns c = next_owes
