use Rattle.hm_tied.proofs.UsesIn.{opening_owes}
use Rattle.hm_tied.proofs.bounds.openings_owe.Goals as goal

pub returns : goal.returns
returns c = opening_owes
