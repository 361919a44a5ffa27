use Rattle.hm_costs.proofs.CostsMet.{costs_are_met_is}
use Rattle.hm_costs.proofs.laws.costs_are_met.Goals as goal

pub returns : goal.returns
returns c = costs_are_met_is
