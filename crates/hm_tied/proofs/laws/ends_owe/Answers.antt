use Rattle.hm_tied.proofs.Calls.{end_owes}
use Rattle.hm_tied.proofs.laws.ends_owe.Goals as goal

pub returns : goal.returns
returns c = end_owes
