-- Numbers in a heap of which the lowest comes first.
use Rattle.std.proofs.Common.{◌≡◌, ◌⊎◌, ℕ, ◌<◌, ◌≤◌, ◌==◌, List, [], ◌∷◌, length, map, slice_index_or, Bool, true, refl, sym, ap, ◌∙◌, inl, inr, subst, arith}
use Rattle.std.specs.BinaryHeap.{IsUpperBound}
use Rattle.std.specs.List.{list_any}
use Rattle.std.specs.List.Sorted.{IsPermutation}
use Rattle.std.specs.declared.cmp.Reverse.{Reverse}
use Rattle.std.proofs.lemmas.Bool.{eq-eqb, eqb-true, or_cases, or_left, or_right, true≢false}
use Rattle.std.proofs.lemmas.List.Sorted.{list_any-IsPermutation}
use Rattle.std.proofs.lemmas.Map.Keys.{ge_from_not_lt}
use Rattle.hm_model.specs.Locks.{IsIn}
use Rattle.hm_world.specs.Numbers.{AreWithout, IsLowest, lowest_first, number}

-- it has the number
abbrev is_it : ℕ → Reverse ℕ → Bool
is_it q one = number one == q

-- a number is among those that have it
in_any : (q : ℕ) (xs : List (Reverse ℕ)) → IsIn q (map number xs) → list_any (is_it q) xs ≡ true
in_any q [] there = absurd there
in_any q (x ∷ xs) (inl own) = or_left (is_it q x) (list_any (is_it q) xs) (eq-eqb (number x) q (sym own))
in_any q (x ∷ xs) (inr more) = or_right (is_it q x) (list_any (is_it q) xs) (in_any q xs more)

any_in : (q : ℕ) (xs : List (Reverse ℕ)) → list_any (is_it q) xs ≡ true → IsIn q (map number xs)
any_in q [] any = absurd (true≢false (sym any))
any_in q (x ∷ xs) any = elim (or_cases (is_it q x) (list_any (is_it q) xs) any) [
  | inl own ↦ inl (sym (eqb-true (number x) q own))
  | inr more ↦ inr (any_in q xs more)
]

-- so it is in another order
moved : (q : ℕ) (xs ys : List (Reverse ℕ)) → IsPermutation xs ys → IsIn q (map number xs) → IsIn q (map number ys)
moved q xs ys moves there = any_in q ys (sym (list_any-IsPermutation (is_it q) xs ys moves) ∙ in_any q xs there)

pub pushed_there : (x : Reverse ℕ) (xs ys : List (Reverse ℕ)) → IsPermutation (x ∷ xs) ys → IsIn (number x) (map number ys)
pushed_there x xs ys moves = moved (number x) (x ∷ xs) ys moves (inl refl)

pub pushed_kept : (x : Reverse ℕ) (xs ys : List (Reverse ℕ)) → IsPermutation (x ∷ xs) ys → (q : ℕ) → IsIn q (map number xs) → IsIn q (map number ys)
pushed_kept x xs ys moves q there = moved q (x ∷ xs) ys moves (inr there)

-- the first one, and that none is lower
first_there : (x : Reverse ℕ) (xs : List (Reverse ℕ)) → 0 < length xs → x ≡ slice_index_or xs 0 x → IsIn (number x) (map number xs)
first_there x [] some is = absurd (omega (arith, some))
first_there x (y ∷ ys) some is = inl (ap number is)

none_lower : (x : Reverse ℕ) (xs : List (Reverse ℕ)) → IsUpperBound lowest_first x xs → (q : ℕ) → IsIn q (map number xs) → number x ≤ q
none_lower x [] bound q there = absurd there
none_lower x (y ∷ ys) bound q (inl own) = subst (λ n. number x ≤ n) (sym own) (ge_from_not_lt (number y) (number x) bound.0)
none_lower x (y ∷ ys) bound q (inr more) = none_lower x ys bound.1 q more

pub first_lowest : (x : Reverse ℕ) (xs : List (Reverse ℕ)) → 0 < length xs → x ≡ slice_index_or xs 0 x → IsUpperBound lowest_first x xs → IsLowest (number x) (map number xs)
first_lowest x xs some is bound = (first_there x xs some is, none_lower x xs bound)

-- after the first one all others are there
pub popped_without : (x : Reverse ℕ) (xs ys : List (Reverse ℕ)) → IsPermutation xs (x ∷ ys) → IsUpperBound lowest_first x xs → (p : ℕ) → IsLowest p (map number xs) → AreWithout p (map number xs) (map number ys)
popped_without x xs ys moves bound p lowest q there = by (moved q xs (x ∷ ys) moves there)
  where
    own : (own_there : IsIn (number x) (map number xs)) → number x ≡ p
    own own_there = let least = none_lower x xs bound p lowest.0 in let most = lowest.1 (number x) own_there in omega (arith, least, most)

    by : IsIn q (map number (x ∷ ys)) → (q ≡ p) ⊎ IsIn q (map number ys)
    by (inl is) = inl (is ∙ own (subst (λ n. IsIn n (map number xs)) is there))
    by (inr more) = inr more
