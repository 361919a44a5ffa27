use Rattle.hm_tied.proofs.Ables.{ables_stay}
use Rattle.hm_tied.proofs.AblesIn.{claimed_stay_able}
use Rattle.hm_tied.proofs.bounds.ables_stay.Goals as goal

pub returns-clause-all : goal.returns-clause-all
returns-clause-all c = ables_stay

pub returns-clause-claimed : goal.returns-clause-claimed
returns-clause-claimed c = claimed_stay_able
