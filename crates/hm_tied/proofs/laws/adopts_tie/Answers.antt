use Rattle.hm_tied.proofs.Others.{adopt_ties}
use Rattle.hm_tied.proofs.laws.adopts_tie.Goals as goal

pub returns : goal.returns
returns c = adopt_ties
