-- The lists as callers see them.
use Rattle.std.specs.Prelude.{◌≡◌, ℕ, List, filter, not, ◌==◌}
use Rattle.hm_lists.specs.Chains.{IsIn, Differ, list_at}

-- the list of each number, how many nodes are there, and how much memory there is
pub record Map : Type 0 where
  pub lists : List (List ℕ)
  pub spare : ℕ
  pub room : ℕ

-- the node is in no list
abbrev pub IsOut : List (List ℕ) → ℕ → Type 0
IsOut lists node = (l : ℕ) → IsIn node (list_at lists l) → ⊥

-- it is in one
abbrev pub IsHeld : List (List ℕ) → ℕ → Type 0
IsHeld lists node = (l : ℕ) × IsIn node (list_at lists l)

-- the list without the node
abbrev pub without : ℕ → List ℕ → List ℕ
without node xs = filter (λ x. not (x == node)) xs

-- no node is twice in a list or in two
pub record AreApart (lists : List (List ℕ)) : Type 0 where
  pub once : (l : ℕ) → Differ (list_at lists l)
  pub in_one : (l m node : ℕ) → IsIn node (list_at lists l) → IsIn node (list_at lists m) → l ≡ m
