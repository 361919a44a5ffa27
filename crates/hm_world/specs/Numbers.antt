-- Numbers of which the lowest comes first.
use Rattle.std.specs.Prelude.{◌≡◌, ◌⊎◌, ℕ, ◌≤◌, List}
use Rattle.std.specs.Ordering.{nat_cmp}
use Rattle.std.specs.declared.cmp.Ordering.{Ordering}
use Rattle.std.specs.declared.cmp.Reverse.{Reverse}
use Rattle.hm_model.specs.Locks.{IsIn}

-- the numbers, in no order, and for how many more there is room
pub record NumbersView : Type 0 where
  pub items : List ℕ
  pub spare : ℕ

-- the number itself
abbrev pub number : Reverse ℕ → ℕ
number one = one.0

-- the lower number is the greater key
abbrev pub lowest_first : Reverse ℕ → Reverse ℕ → Ordering
lowest_first a b = nat_cmp b.0 a.0

-- one of the numbers, and none is lower
abbrev pub IsLowest : ℕ → List ℕ → Type 0
IsLowest p items = IsIn p items × ((q : ℕ) → IsIn q items → p ≤ q)

-- each number but this is there still
abbrev pub AreWithout : ℕ → List ℕ → List ℕ → Type 0
AreWithout p old new = (q : ℕ) → IsIn q old → (q ≡ p) ⊎ IsIn q new
