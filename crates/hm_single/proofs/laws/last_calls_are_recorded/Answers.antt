use Rattle.hm_single.proofs.All.{last_is_recorded}
use Rattle.hm_single.proofs.laws.last_calls_are_recorded.Goals as goal

pub returns : goal.returns
returns c = last_is_recorded
