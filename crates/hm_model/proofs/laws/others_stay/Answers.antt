use Rattle.hm_model.proofs.Apart.{others_stay}
use Rattle.hm_model.proofs.laws.others_stay.Goals as goal

pub returns : goal.returns
returns c = others_stay
