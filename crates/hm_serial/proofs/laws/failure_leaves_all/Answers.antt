use Rattle.hm_serial.proofs.Failing.{failure_leaves_all}
use Rattle.hm_serial.proofs.laws.failure_leaves_all.Goals as goal

pub returns : goal.returns
returns c = failure_leaves_all
