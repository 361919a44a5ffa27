-- Sums over a list, and counts of numbers.
use Rattle.std.proofs.Common.{◌≡◌, ◌≢◌, ◌⊎◌, ℕ, zero, suc, ◌+◌, ◌≤◌, List, [], ◌∷◌, ◌++◌, length, set, sym, refl, ap, inl, inr, ⊎_elim, arith}
use mathlib.Core.Option.{some, some-injective, some-ne-none}
use lib.ListN.{get_elem?}
use Rattle.hm_gate.specs.Total.{total, same, under, times, entries, numbered}

module _ {A : Type 0} where
  pub total-set : (f : A → ℕ) (l : List A) (i : ℕ) (v w : A) → get_elem? l i ≡ some v → total f (set l i w) + f v ≡ total f l + f w
  total-set f [] i v w e = absurd (some-ne-none v (sym e))
  total-set f (x ∷ xs) zero v w e = let is : f x ≡ f v = ap f (some-injective x v e) in omega arith
  total-set f (x ∷ xs) (suc i) v w e = let r = total-set f xs i v w e in omega arith

  pub total-kept : (f : A → ℕ) (l : List A) (i : ℕ) (v w : A) → get_elem? l i ≡ some v → f w ≡ f v → total f (set l i w) ≡ total f l
  total-kept f l i v w e is = let r = total-set f l i v w e in omega arith

  pub total-has : (f : A → ℕ) (l : List A) (i : ℕ) (v : A) → get_elem? l i ≡ some v → f v ≤ total f l
  total-has f [] i v e = absurd (some-ne-none v (sym e))
  total-has f (x ∷ xs) zero v e = let is : f x ≡ f v = ap f (some-injective x v e) in omega arith
  total-has f (x ∷ xs) (suc i) v e = let r = total-has f xs i v e in omega arith

  pub total-two : (f : A → ℕ) (l : List A) (i j : ℕ) (a b : A) → get_elem? l i ≡ some a → get_elem? l j ≡ some b → j ≢ i → f a + f b ≤ total f l
  total-two f [] i j a b e d n = absurd (some-ne-none a (sym e))
  total-two f (x ∷ xs) zero zero a b e d n = absurd (n refl)
  total-two f (x ∷ xs) zero (suc j) a b e d n = let is : f x ≡ f a = ap f (some-injective x a e) in let r = total-has f xs j b d in omega arith
  total-two f (x ∷ xs) (suc i) zero a b e d n = let is : f x ≡ f b = ap f (some-injective x b d) in let r = total-has f xs i a e in omega arith
  total-two f (x ∷ xs) (suc i) (suc j) a b e d n = let r = total-two f xs i j a b e d (λ h. n (ap suc h)) in omega arith

  pub total-le : (f g : A → ℕ) (l : List A) → ((i : ℕ) (v : A) → get_elem? l i ≡ some v → f v ≤ g v) → total f l ≤ total g l
  total-le f g [] h = omega arith
  total-le f g (x ∷ xs) h = let a = h 0 x refl in let r = total-le f g xs (λ i v e. h (suc i) v e) in omega arith

  pub total-zero : (f : A → ℕ) (l : List A) → ((i : ℕ) (v : A) → get_elem? l i ≡ some v → f v ≡ 0) → total f l ≡ 0
  total-zero f [] h = refl
  total-zero f (x ∷ xs) h = let a = h 0 x refl in let r = total-zero f xs (λ i v e. h (suc i) v e) in omega arith

  pub total-add : (f g : A → ℕ) (l : List A) → total (λ v. f v + g v) l ≡ total f l + total g l
  total-add f g [] = refl
  total-add f g (x ∷ xs) = let r = total-add f g xs in omega arith

  pub total-snoc : (f : A → ℕ) (l : List A) (x : A) → total f (l ++ x ∷ []) ≡ total f l + f x
  total-snoc f [] x = omega arith
  total-snoc f (y ∷ ys) x = let r = total-snoc f ys x in omega arith

pub same-cases : (a b : ℕ) → ((a ≡ b) × (same a b ≡ 1)) ⊎ ((a ≢ b) × (same a b ≡ 0))
same-cases zero zero = inl (refl, refl)
same-cases zero (suc b) = inr ((λ e. omega arith), refl)
same-cases (suc a) zero = inr ((λ e. omega arith), refl)
same-cases (suc a) (suc b) = ⊎_elim (λ t. inl (ap suc t.0, t.1)) (λ t. let n = t.0 in inr ((λ e. n (omega arith)), t.1)) (same-cases a b)

pub same-under : (n k : ℕ) → same n k + under k n ≡ under (suc k) n
same-under zero zero = refl
same-under zero (suc k) = refl
same-under (suc n) zero = refl
same-under (suc n) (suc k) = same-under n k

pub times-append : (n : ℕ) (xs ys : List ℕ) → times n (xs ++ ys) ≡ times n xs + times n ys
times-append n [] ys = omega arith
times-append n (x ∷ xs) ys = let r = times-append n xs ys in omega arith

module _ {I : Type 0} where
  pub entries-append : (n : ℕ) (xs ys : List (ℕ × I)) → entries n (xs ++ ys) ≡ entries n xs + entries n ys
  entries-append n [] ys = omega arith
  entries-append n (x ∷ xs) ys = let r = entries-append n xs ys in omega arith

  pub entries-numbered : (n k : ℕ) (xs : List I) → entries n (numbered k xs) + under k n ≡ under (k + length xs) n
  entries-numbered n k [] = let e : under k n ≡ under (k + length {A = I} []) n = ap (λ (m : ℕ). under m n) (omega arith) in omega arith
  entries-numbered n k (x ∷ xs) = let r = entries-numbered n (suc k) xs in let s = same-under n k in let e : under (suc k + length xs) n ≡ under (k + length (x ∷ xs)) n = ap (λ (m : ℕ). under m n) (omega arith) in omega arith
