use Rattle.hm_single.proofs.SingleLive.{single_over}
use Rattle.hm_single.proofs.laws.openings_over_ranges_are_single.Goals as goal

pub returns : goal.returns
returns c = single_over
