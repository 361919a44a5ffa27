use Rattle.hm_top.proofs.Grants.{runs_refuse}
use Rattle.hm_top.proofs.laws.refusals_are_granted.Goals as goal

pub returns : goal.returns
returns c = runs_refuse
