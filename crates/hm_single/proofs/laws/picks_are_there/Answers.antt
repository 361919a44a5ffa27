use Rattle.hm_single.proofs.Picks.{picks_right, picks_there}
use Rattle.hm_single.proofs.laws.picks_are_there.Goals as goal

pub returns-clause-there : goal.returns-clause-there
returns-clause-there c = picks_there

pub returns-clause-right : goal.returns-clause-right
returns-clause-right c = picks_right
