use Rattle.hm_records.proofs.Trees.{stays_ended}
use Rattle.hm_records.proofs.laws.ended_stay.Goals as goal

pub returns : goal.returns
returns c = stays_ended
