use Rattle.std.proofs.Common.{◌≡◌, map, take}
use Rattle.hm_locks.specs.Kept.{claim_of}
use Rattle.hm_locks.proofs.draft.claims_of.Given as goal

abbrev pub invariant-loop-ask : goal.invariant-loop-ask
invariant-loop-ask l = l.claims.items ≡ map claim_of (take l.ask-index l.asked)
