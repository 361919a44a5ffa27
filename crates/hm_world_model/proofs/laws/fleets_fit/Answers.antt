use Rattle.hm_world_model.proofs.Fleets.{fits_are_stops, fits_first, resumed_kept, resumed_stopped}
use Rattle.hm_world_model.proofs.laws.fleets_fit.Goals as goal

pub returns-clause-fit : goal.returns-clause-fit
returns-clause-fit c = fits_first

pub returns-clause-stops : goal.returns-clause-stops
returns-clause-stops c = fits_are_stops

pub returns-clause-stopped : goal.returns-clause-stopped
returns-clause-stopped c = resumed_stopped

pub returns-clause-kept : goal.returns-clause-kept
returns-clause-kept c = resumed_kept
