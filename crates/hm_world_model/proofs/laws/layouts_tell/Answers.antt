use Rattle.hm_world_model.proofs.Layouts.{layouts_tell}
use Rattle.hm_world_model.proofs.laws.layouts_tell.Goals as goal

pub returns : goal.returns
returns c = layouts_tell
