use Rattle.hm_rolled.proofs.Points.{own_never_twice}
use Rattle.hm_rolled.proofs.laws.own_is_never_twice.Goals as goal

pub returns : goal.returns
returns c = own_never_twice
