use Rattle.hm_single.proofs.Live.{all_live, all_on}
use Rattle.hm_single.proofs.laws.placed_are_live.Goals as goal

pub returns-clause-live : goal.returns-clause-live
returns-clause-live c = all_live

pub returns-clause-on : goal.returns-clause-on
returns-clause-on c = all_on
