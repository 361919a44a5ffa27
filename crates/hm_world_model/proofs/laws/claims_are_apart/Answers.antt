use Rattle.hm_world_model.proofs.Opening.{claimed_once_is, never_clash_is}
use Rattle.hm_world_model.proofs.laws.claims_are_apart.Goals as goal

pub returns-clause-once : goal.returns-clause-once
returns-clause-once c = claimed_once_is

pub returns-clause-locks : goal.returns-clause-locks
returns-clause-locks c = never_clash_is
