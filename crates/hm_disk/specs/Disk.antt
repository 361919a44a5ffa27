-- What the calls of a disk do to its content, and what a stop may leave of it.
use Rattle.std.specs.Prelude.{◌≡◌, ◌⊎◌, ℕ, ◌+◌, ◌-◌, ◌^◌, ◌≤◌, min, max, List, ◌++◌, length, take, drop}

-- the old content with these bytes at this place
abbrev pub written : ℕ → List ℕ → List ℕ → List ℕ
written at bytes old = take at old ++ bytes ++ drop (at + length bytes) old

-- after some part of a write of n bytes: any bytes in its range, the old ones elsewhere, and a size between the old one and the new
pub record Torn (at n : ℕ) (old new : List ℕ) : Type 0 where
  pub before : take at new ≡ take at old
  pub after : drop (at + n) new ≡ drop (at + n) old
  pub no_shorter : length old ≤ length new
  pub no_longer : length new ≤ max (length old) (at + n)

-- after some part of a cut: the old size or the new one
abbrev pub CutOrWhole : ℕ → List ℕ → List ℕ → Type 0
CutOrWhole n old new = (new ≡ old) ⊎ (new ≡ take n old)

-- each image now comes of an image before by this step
abbrev pub Follows : (List ℕ → List ℕ → Type 0) → (List ℕ → Type 0) → (List ℕ → Type 0) → Type 0
Follows step old new = (c : List ℕ) → new c → (d : List ℕ) × old d × step d c

-- this content is the only image
abbrev pub Only : List ℕ → (List ℕ → Type 0) → Type 0
Only content image = (c : List ℕ) → image c → c ≡ content

-- time goes on: a stop since t may have left what it might have left before, or what it may leave now
pub record Elapses (before now : ℕ) (past since : ℕ → List ℕ → Type 0) (image : List ℕ → Type 0) : Type 0 where
  pub later : before ≤ now
  pub nothing_else : (t : ℕ) (c : List ℕ) → t ≤ before → since t c → past t c ⊎ image c
  pub keeps : (t : ℕ) (c : List ℕ) → t ≤ before → past t c → since t c

-- the count rose by this number, or by less up to the end of its type
pub record RisesBy (by old new : ℕ) : Type 0 where
  pub later : old ≤ new
  pub least : min (old + by) (2 ^ 64 - 1) ≤ new
  pub most : new ≤ old + by

-- a stop at any moment since the old disk leaves an image that has P
pub record LeavesOnly {D : Type 0} (moment : D → ℕ) (left_since : D → ℕ → List ℕ → Type 0) (old new : D) (P : List ℕ → Type 0) : Type 0 where
  pub later : moment old ≤ moment new
  pub each : (c : List ℕ) → left_since new (moment old) c → P c
  -- for a run that began earlier
  pub before : (t : ℕ) (c : List ℕ) → t ≤ moment old → left_since new t c → left_since old t c ⊎ P c

-- from some moment on a stop leaves an image that has P, and before it one that had Q
pub record LeavesThen {D : Type 0} (moment : D → ℕ) (left_since : D → ℕ → List ℕ → Type 0) (old new : D) (Q P : List ℕ → Type 0) : Type 0 where
  pub at : ℕ
  pub from : moment old ≤ at
  pub to : at ≤ moment new
  pub since : (c : List ℕ) → left_since new at c → P c
  pub earlier : (t : ℕ) (c : List ℕ) → t ≤ moment old → left_since new t c → left_since old t c ⊎ (Q c ⊎ P c)
