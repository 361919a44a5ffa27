use Rattle.hm_tied.proofs.CallsIn.{give_back_ties}
use Rattle.hm_tied.proofs.bounds.giving_back_ties.Goals as goal

pub returns : goal.returns
returns c = give_back_ties
