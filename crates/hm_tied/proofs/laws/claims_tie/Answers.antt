use Rattle.hm_tied.proofs.Calls.{claim_ties}
use Rattle.hm_tied.proofs.laws.claims_tie.Goals as goal

pub returns : goal.returns
returns c = claim_ties
