use Rattle.hm_tied.proofs.Clock.{clocks_go_on, dues_stay, failures_set}
use Rattle.hm_tied.proofs.bounds.clocks_tell.Goals as goal

pub returns-clause-stay : goal.returns-clause-stay
returns-clause-stay c = dues_stay

pub returns-clause-goes_on : goal.returns-clause-goes_on
returns-clause-goes_on c = clocks_go_on

pub returns-clause-set : goal.returns-clause-set
returns-clause-set c = failures_set
