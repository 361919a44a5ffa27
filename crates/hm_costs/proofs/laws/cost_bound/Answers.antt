use Rattle.hm_costs.proofs.Bound.{cost_bound_is}
use Rattle.hm_costs.proofs.laws.cost_bound.Goals as goal

pub returns : goal.returns
returns c = cost_bound_is
