use Rattle.hm_tied.proofs.CallsIn.{join_owes}
use Rattle.hm_tied.proofs.bounds.joins_owe.Goals as goal

pub returns : goal.returns
returns c = join_owes
