use Rattle.hm_single.proofs.All.{one_transit_is, place_by_row}
use Rattle.hm_single.proofs.laws.one_transit.Goals as goal

pub returns-clause-alone : goal.returns-clause-alone
returns-clause-alone c = one_transit_is

pub returns-clause-place : goal.returns-clause-place
returns-clause-place c = place_by_row
