use Rattle.hm_world_model.proofs.Keeping.{outside_keeps}
use Rattle.hm_world_model.proofs.laws.outside_keeps.Goals as goal

pub returns : goal.returns
returns c = outside_keeps
