use Rattle.hm_world_model.proofs.Held.{opened_held}
use Rattle.hm_world_model.proofs.laws.opened_are_held.Goals as goal

pub returns : goal.returns
returns c = opened_held
