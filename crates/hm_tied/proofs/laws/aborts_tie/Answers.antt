use Rattle.hm_tied.proofs.Others.{abort_ties}
use Rattle.hm_tied.proofs.laws.aborts_tie.Goals as goal

pub returns : goal.returns
returns c = abort_ties
