use Rattle.hm_tied.proofs.Calls.{give_back_ties}
use Rattle.hm_tied.proofs.laws.giving_back_ties.Goals as goal

pub returns : goal.returns
returns c = give_back_ties
