-- Lists of claims with one more, and with one less.
use Rattle.std.specs.Prelude.{◌≡◌, ◌≢◌, ℕ, List, ◌⊎◌, ◌↔◌}
use Rattle.hm_model.specs.Locks.{IsIn}

-- one is claimed too
abbrev pub IsClaimedToo : ℕ → List ℕ → List ℕ → Type 0
IsClaimedToo p old new = (q : ℕ) → IsIn q new ↔ ((q ≡ p) ⊎ IsIn q old)

-- a list of claims without one
abbrev pub Unclaims : ℕ → List ℕ → List ℕ → Type 0
Unclaims p old new = (q : ℕ) → IsIn q new ↔ (IsIn q old × (q ≢ p))
