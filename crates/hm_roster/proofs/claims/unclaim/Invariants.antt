use Rattle.std.proofs.Common.{◌≡◌, ◌≢◌, ◌↔◌, ℕ, vec_capacity, vec_len}
use Rattle.hm_model.specs.Locks.{IsIn}
use Rattle.hm_roster.proofs.claims.unclaim.Given as goal

abbrev pub invariant-loop-place : goal.invariant-loop-place
invariant-loop-place l = record {
  others : (q : ℕ) → q ≢ l.pid → IsIn q l.claimed.items ↔ IsIn q l.fn.claimed.items;
  capacity : vec_capacity l.claimed ≡ vec_capacity l.fn.claimed;
}

abbrev pub decreases-loop-place : goal.decreases-loop-place
decreases-loop-place l = vec_len l.claimed
