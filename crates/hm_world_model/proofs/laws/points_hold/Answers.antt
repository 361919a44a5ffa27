use Rattle.hm_world_model.proofs.Points.{held_live, points_hold}
use Rattle.hm_world_model.proofs.laws.points_hold.Goals as goal

pub returns-clause-points : goal.returns-clause-points
returns-clause-points c = points_hold

pub returns-clause-live : goal.returns-clause-live
returns-clause-live c = held_live
