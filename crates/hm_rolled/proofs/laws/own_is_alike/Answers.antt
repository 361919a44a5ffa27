use Rattle.hm_rolled.proofs.Rebasing.{own_alike}
use Rattle.hm_rolled.proofs.laws.own_is_alike.Goals as goal

pub returns : goal.returns
returns c = own_alike
