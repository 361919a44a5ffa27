use Rattle.hm_world_model.proofs.Measure.{carrying_goes_on}
use Rattle.hm_world_model.proofs.Raising.{carrying_possible, carrying_stays}
use Rattle.hm_world_model.proofs.laws.carrying_goes_on.Goals as goal

pub returns-clause-nearer : goal.returns-clause-nearer
returns-clause-nearer c = carrying_goes_on

pub returns-clause-stays : goal.returns-clause-stays
returns-clause-stays c = carrying_stays

pub returns-clause-possible : goal.returns-clause-possible
returns-clause-possible c = carrying_possible
