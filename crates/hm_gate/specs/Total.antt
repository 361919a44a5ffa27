-- Sums over a list, and counts of numbers.
use Rattle.std.specs.Prelude.{ℕ, zero, suc, ◌+◌, List, [], ◌∷◌}

-- the sum of f over the list
abbrev pub total : {A : Type 0} → (A → ℕ) → List A → ℕ
total f [] = 0
total f (x ∷ xs) = f x + total f xs

-- 1 where the two are one number, else 0
abbrev pub same : ℕ → ℕ → ℕ
same zero zero = 1
same zero (suc b) = 0
same (suc a) zero = 0
same (suc a) (suc b) = same a b

-- 1 where n lies under b, else 0
abbrev pub under : ℕ → ℕ → ℕ
under zero n = 0
under (suc b) zero = 1
under (suc b) (suc n) = under b n

-- how often n stands in the list
abbrev pub times : ℕ → List ℕ → ℕ
times n [] = 0
times n (x ∷ xs) = same n x + times n xs

-- how often a pair with the number n stands in the list
abbrev pub entries : {I : Type 0} → ℕ → List (ℕ × I) → ℕ
entries n [] = 0
entries n (x ∷ xs) = same n x.0 + entries n xs

-- the items with their numbers, from k on
abbrev pub numbered : {I : Type 0} → ℕ → List I → List (ℕ × I)
numbered k [] = []
numbered k (x ∷ xs) = (k, x) ∷ numbered (suc k) xs

-- the first where the number isn't 0, else the second
abbrev pub either : {A : Type 0} → ℕ → A → A → A
either zero a b = b
either (suc n) a b = a

-- the numbers of xs that stand in ys
abbrev pub among : List ℕ → List ℕ → List ℕ
among ys [] = []
among ys (x ∷ xs) = either (times x ys) (x ∷ among ys xs) (among ys xs)

-- the numbers of xs that don't stand in ys
abbrev pub beyond : List ℕ → List ℕ → List ℕ
beyond ys [] = []
beyond ys (x ∷ xs) = either (times x ys) (beyond ys xs) (x ∷ beyond ys xs)
