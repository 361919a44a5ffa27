use Rattle.hm_tied.proofs.CallsIn.{give_up_owes, keep_on_owes}
use Rattle.hm_tied.proofs.bounds.keeping_on_owes.Goals as goal

pub returns-clause-up : goal.returns-clause-up
returns-clause-up c = give_up_owes

pub returns-clause-on : goal.returns-clause-on
returns-clause-on c = keep_on_owes
