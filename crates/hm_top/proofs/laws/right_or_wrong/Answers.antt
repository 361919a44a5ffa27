use Rattle.hm_top.proofs.Complete.{not_bad}
use Rattle.hm_top.proofs.laws.right_or_wrong.Goals as goal

pub returns : goal.returns
returns c = not_bad
