use Rattle.hm_costs.proofs.Emptied.{crashes_empty_is}
use Rattle.hm_costs.proofs.laws.crashes_empty.Goals as goal

pub returns : goal.returns
returns c = crashes_empty_is
