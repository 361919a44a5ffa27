use Rattle.hm_costs.proofs.GoesOn.{each_tree_goes_on_is}
use Rattle.hm_costs.proofs.laws.each_tree_goes_on.Goals as goal

pub returns : goal.returns
returns c = each_tree_goes_on_is
