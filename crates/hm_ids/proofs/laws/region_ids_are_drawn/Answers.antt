use Rattle.hm_ids.proofs.DrawnAll.{ids_are_drawn}
use Rattle.hm_ids.proofs.laws.region_ids_are_drawn.Goals as goal

pub returns : goal.returns
returns c = ids_are_drawn
