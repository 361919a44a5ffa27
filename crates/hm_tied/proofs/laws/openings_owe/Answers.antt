use Rattle.hm_tied.proofs.Uses.{opening_owes}
use Rattle.hm_tied.proofs.laws.openings_owe.Goals as goal

pub returns : goal.returns
returns c = opening_owes
