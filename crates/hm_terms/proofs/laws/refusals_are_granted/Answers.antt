use Rattle.hm_terms.proofs.Scenes.{refusals_granted}
use Rattle.hm_terms.proofs.laws.refusals_are_granted.Goals as goal

pub returns : goal.returns
returns c = refusals_granted
