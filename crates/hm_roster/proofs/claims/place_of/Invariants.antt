use Rattle.std.proofs.Common.{◌↔◌, drop}
use Rattle.hm_model.specs.Locks.{IsIn}
use Rattle.hm_roster.proofs.claims.place_of.Given as goal

abbrev pub invariant-loop-place : goal.invariant-loop-place
invariant-loop-place l = IsIn l.pid (drop l.place l.claimed) ↔ IsIn l.pid l.claimed
