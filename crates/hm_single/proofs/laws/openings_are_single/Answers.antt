use Rattle.hm_single.proofs.All.{calls_find, openings_single}
use Rattle.hm_single.proofs.laws.openings_are_single.Goals as goal

pub returns-clause-find : goal.returns-clause-find
returns-clause-find c = calls_find

pub returns-clause-single : goal.returns-clause-single
returns-clause-single c = openings_single
