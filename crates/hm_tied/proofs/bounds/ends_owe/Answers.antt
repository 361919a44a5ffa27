use Rattle.hm_tied.proofs.CallsIn.{end_owes}
use Rattle.hm_tied.proofs.bounds.ends_owe.Goals as goal

pub returns : goal.returns
returns c = end_owes
