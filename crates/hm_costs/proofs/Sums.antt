-- Sums of numbers, one for each number below a bound.
use Rattle.std.proofs.Common.{◌≡◌, ◌≢◌, ℕ, zero, suc, ◌+◌, ◌<◌, List, [], ◌∷◌, ◌++◌, length, Option, Some, None, slice_get, refl, ap, sym, ◌∙◌, arith, inl, inr}
use Rattle.std.proofs.lemmas.Bool.{cases_eq}
use Rattle.hm_data.specs.declared.args.Args.{Args}

abbrev pub sum_below : ℕ → (ℕ → ℕ) → ℕ
sum_below zero f = 0
sum_below (suc n) f = sum_below n f + f n

pub sum_same : (n : ℕ) (f g : ℕ → ℕ) → ((q : ℕ) → q < n → f q ≡ g q) → sum_below n f ≡ sum_below n g
sum_same zero f g same = refl
sum_same (suc n) f g same =
    let here = same n (omega arith) in
    let on = sum_same n f g (λ q lt. same q (omega (arith, lt))) in
    omega (arith, here, on)

-- where they differ at one number alone
pub sum_swap : (n : ℕ) (f g : ℕ → ℕ) (p : ℕ) → p < n → ((q : ℕ) → q < n → q ≢ p → f q ≡ g q) → sum_below n f + g p ≡ sum_below n g + f p
sum_swap zero f g p lt same = absurd (omega (arith, lt))
sum_swap (suc n) f g p lt same = elim (cases_eq p n) [
  | inl here ↦
      let low = sum_same n f g (λ q below. same q (omega (arith, below)) (λ e. omega (arith, below, e, here))) in
      let one = ap f here in
      let other = ap g here in
      omega (arith, low, one, other)
  | inr other ↦
      let low = sum_swap n f g p (omega (arith, lt, other)) (λ q below differs. same q (omega (arith, below)) differs) in
      let top = same n (omega arith) (λ e. other (sym e)) in
      omega (arith, low, top)
]

pub sum_append : (n m : ℕ) (f : ℕ → ℕ) → sum_below (n + m) f ≡ sum_below n f + sum_below m (λ i. f (n + i))
sum_append n zero f = let e : n + 0 ≡ n = omega arith in ap (λ k. sum_below k f) e ∙ omega arith
sum_append n (suc m) f =
    let e : n + suc m ≡ suc (n + m) = omega arith in
    let on = sum_append n m f in
    ap (λ k. sum_below k f) e ∙ omega (arith, on)

sum_front : (n : ℕ) (f : ℕ → ℕ) → sum_below (suc n) f ≡ f 0 + sum_below n (λ i. f (suc i))
sum_front zero f = omega arith
sum_front (suc n) f = let on = sum_front n f in omega (arith, on)

-- what some procedures cost, by their args
abbrev pub total : (Args → ℕ) → List Args → ℕ
total price [] = 0
total price (args ∷ more) = price args + total price more

abbrev pub price_of : (Args → ℕ) → Option Args → ℕ
price_of price None = 0
price_of price (Some args) = price args

pub sum_total : (price : Args → ℕ) (list : List Args) → sum_below (length list) (λ i. price_of price (slice_get list i)) ≡ total price list
sum_total price [] = refl
sum_total price (args ∷ more) =
    let on = sum_total price more in
    sum_front (length more) (λ i. price_of price (slice_get (args ∷ more) i)) ∙ omega (arith, on)

pub total_append : (price : Args → ℕ) (one other : List Args) → total price (one ++ other) ≡ total price one + total price other
total_append price [] other = omega arith
total_append price (args ∷ more) other = let on = total_append price more other in omega (arith, on)
