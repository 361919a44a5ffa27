use Rattle.hm_world_model.proofs.Keeping.{entries_keep}
use Rattle.hm_world_model.proofs.laws.entries_keep.Goals as goal

pub returns : goal.returns
returns c = entries_keep
