use Rattle.hm_rolled.proofs.Points.{own_points_are}
use Rattle.hm_rolled.proofs.laws.own_points_hold.Goals as goal

pub returns : goal.returns
returns c = own_points_are
