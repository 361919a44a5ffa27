use Rattle.hm_tied.proofs.UsesIn.{bounds_owe, timers_owe}
use Rattle.hm_tied.proofs.bounds.bounds_owe.Goals as goal

pub returns-clause-any : goal.returns-clause-any
returns-clause-any c = bounds_owe

pub returns-clause-timers : goal.returns-clause-timers
returns-clause-timers c = timers_owe
