-- The keys that ranges leave out.
use Rattle.std.specs.Prelude.{◌≡◌, ℕ, List, [], ◌∷◌, Option, Some, None, false}
use Rattle.std.specs.List.{AllByRecursion}
use Rattle.std.specs.Ordering.{is_lt}
use Rattle.std.specs.declared.cmp.Ordering.TheVariants.{Less}
use Rattle.hm_names.specs.Order.{bytes_cmp}
use Rattle.hm_names.specs.Ranges.{holds}
use Rattle.hm_names.specs.declared.range.KeyRange.{KeyRange}
use Rattle.hm_model.specs.Locks.{IsIn}

-- no range has the key
abbrev pub IsOut : List KeyRange → List ℕ → Type 0
IsOut ranges key = (range : KeyRange) → IsIn range ranges → holds range key ≡ false

-- the least key that no range has, if there is one
abbrev pub IsLeast : List KeyRange → Option (List ℕ) → Type 0
IsLeast ranges None = (key : List ℕ) → IsOut ranges key → ⊥
IsLeast ranges (Some key) = IsOut ranges key × ((lesser : List ℕ) → bytes_cmp lesser key ≡ Less → IsOut ranges lesser → ⊥)

-- no range starts before one that stands before it
abbrev pub StartsRise : List KeyRange → Type 0
StartsRise [] = Unit {0}
StartsRise (range ∷ more) = AllByRecursion (λ other. is_lt (bytes_cmp other.start range.start) ≡ false) more × StartsRise more
