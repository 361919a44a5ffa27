use Rattle.hm_rebase.proofs.Rebased.{rebased_is_alike}
use Rattle.hm_rebase.proofs.laws.rebased_are_alike.Goals as goal

pub returns : goal.returns
returns c = rebased_is_alike
