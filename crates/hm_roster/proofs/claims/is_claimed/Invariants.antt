use Rattle.std.proofs.Common.{◌↔◌, drop}
use Rattle.hm_model.specs.Locks.{IsIn}
use Rattle.hm_roster.proofs.claims.is_claimed.Given as goal

abbrev pub invariant-loop-one : goal.invariant-loop-one
invariant-loop-one l = IsIn l.pid (drop l.one-index l.claimed) ↔ IsIn l.pid l.claimed
