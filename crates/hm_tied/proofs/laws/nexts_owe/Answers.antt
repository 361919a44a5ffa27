use Rattle.hm_tied.proofs.Calls.{next_owes}
use Rattle.hm_tied.proofs.laws.nexts_owe.Goals as goal

pub returns : goal.returns
returns c = next_owes
