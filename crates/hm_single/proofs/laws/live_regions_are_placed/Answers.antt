use Rattle.hm_single.proofs.Placing.{placed_live}
use Rattle.hm_single.proofs.laws.live_regions_are_placed.Goals as goal

pub returns : goal.returns
returns c = placed_live
