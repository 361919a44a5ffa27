use Rattle.hm_single.proofs.Unassigned.{held_stay}
use Rattle.hm_single.proofs.Vacated.{unassigned}
use Rattle.hm_single.proofs.Closed.{closed_unplaced}
use Rattle.hm_single.proofs.laws.unassigned_are_unplaced.Goals as goal

pub returns-clause-held : goal.returns-clause-held
returns-clause-held c = held_stay

pub returns-clause-unplaced : goal.returns-clause-unplaced
returns-clause-unplaced c = unassigned

pub returns-clause-closed : goal.returns-clause-closed
returns-clause-closed c = closed_unplaced
