use Rattle.hm_single.proofs.Placed.{opened_told, unplaced_free}
use Rattle.hm_single.proofs.laws.places_are_told.Goals as goal

pub returns-clause-opened : goal.returns-clause-opened
returns-clause-opened c = opened_told

pub returns-clause-unplaced : goal.returns-clause-unplaced
returns-clause-unplaced c = unplaced_free
