use Rattle.hm_roll.proofs.Images.{one_list}
use Rattle.hm_roll.proofs.laws.one_image.Goals as goal

pub returns : goal.returns
returns c = one_list
