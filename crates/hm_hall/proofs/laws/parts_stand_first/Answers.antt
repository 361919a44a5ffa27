use Rattle.hm_hall.proofs.Behind.{behind_grows, both_are_all, parts_stay}
use Rattle.hm_hall.proofs.laws.parts_stand_first.Goals as goal

pub returns-clause-all : goal.returns-clause-all
returns-clause-all c = both_are_all

pub returns-clause-parts : goal.returns-clause-parts
returns-clause-parts c = parts_stay

pub returns-clause-behind : goal.returns-clause-behind
returns-clause-behind c = behind_grows
