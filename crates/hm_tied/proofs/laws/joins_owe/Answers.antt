use Rattle.hm_tied.proofs.Calls.{join_owes}
use Rattle.hm_tied.proofs.laws.joins_owe.Goals as goal

pub returns : goal.returns
returns c = join_owes
