use Rattle.hm_tied.proofs.CallsIn.{claim_ties}
use Rattle.hm_tied.proofs.bounds.claims_tie.Goals as goal

pub returns : goal.returns
returns c = claim_ties
