use Rattle.hm_tied.proofs.OthersIn.{adopt_ties}
use Rattle.hm_tied.proofs.bounds.adopts_tie.Goals as goal

pub returns : goal.returns
returns c = adopt_ties
