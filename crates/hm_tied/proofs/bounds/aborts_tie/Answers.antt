use Rattle.hm_tied.proofs.OthersIn.{abort_ties}
use Rattle.hm_tied.proofs.bounds.aborts_tie.Goals as goal

pub returns : goal.returns
returns c = abort_ties
