-- Loads, and what shifts leave of them.
use Rattle.std.specs.Prelude.{◌≡◌, ℕ, ◌+◌, ◌/◌, ◌%◌, ◌≤◌, ◌==◌, if◌then◌else◌, List, [], ◌∷◌, length, Bool, true, false, ◌&&◌, ◌⊎◌}
use Rattle.std.specs.Str.{bytes_eq}
use Rattle.hm_names.specs.Server.{Server}
use Rattle.hm_balance.specs.declared.shift.Shift.{Shift}

-- servers and how many regions each has
abbrev pub Loads : Type 0
Loads = List (Server × ℕ)

-- one server
abbrev pub same_name : Server → Server → Bool
same_name a b = bytes_eq a.host b.host && ((a.port == b.port) && (a.start == b.start))

-- 1 where the test holds, else 0
abbrev pub one_if : Bool → ℕ
one_if true = 1
one_if false = 0

-- the sum of a number of each item
abbrev pub sum_over : {A : Type 0} → (A → ℕ) → List A → ℕ
sum_over f [] = 0
sum_over f (x ∷ xs) = f x + sum_over f xs

-- how many shifts are from a server
abbrev pub given : Server → List Shift → ℕ
given name shifts = sum_over (λ shift. one_if (same_name name shift.from)) shifts

-- how many shifts are to a server
abbrev pub taken : Server → List Shift → ℕ
taken name shifts = sum_over (λ shift. one_if (same_name name shift.to)) shifts

-- it is the name of one of the servers
abbrev pub IsNamed : Server → Loads → Type 0
IsNamed name [] = ⊥
IsNamed name (server ∷ more) = (name ≡ server.0) ⊎ IsNamed name more

-- no two servers have one name
abbrev pub NamesDiffer : Loads → Type 0
NamesDiffer [] = Unit {0}
NamesDiffer (server ∷ more) = (IsNamed server.0 more → ⊥) × NamesDiffer more

-- the sum of the loads
abbrev pub total : Loads → ℕ
total loads = sum_over (λ server. server.1) loads

-- the sum of a list
abbrev pub sum_of : List ℕ → ℕ
sum_of xs = sum_over (λ x. x) xs

-- the average rounded down
abbrev pub down : ℕ → ℕ → ℕ
down s n = s / n

-- the average rounded up
abbrev pub up : ℕ → ℕ → ℕ
up s n = if s % n == 0 then s / n else s / n + 1

-- each is one of two numbers
abbrev pub AllAre : ℕ → ℕ → List ℕ → Type 0
AllAre low high [] = Unit {0}
AllAre low high (x ∷ xs) = ((x ≡ low) ⊎ (x ≡ high)) × AllAre low high xs

-- each load is the average rounded down or up
abbrev pub AreBalanced : List ℕ → Type 0
AreBalanced xs = AllAre (down (sum_of xs) (length xs)) (up (sum_of xs) (length xs)) xs

-- the shifts are among the servers
abbrev pub AreAmong : Loads → List Shift → Type 0
AreAmong loads [] = Unit {0}
AreAmong loads (shift ∷ shifts) = IsNamed shift.from loads × IsNamed shift.to loads × AreAmong loads shifts

-- with the shifts the servers come to these loads, in their order
abbrev pub Leave : List Shift → Loads → List ℕ → Type 0
Leave shifts [] [] = Unit {0}
Leave shifts [] (now ∷ others) = ⊥
Leave shifts (server ∷ more) [] = ⊥
Leave shifts (server ∷ more) (now ∷ others) = (server.1 + taken server.0 shifts ≡ now + given server.0 shifts) × Leave shifts more others

-- shifts among the servers that leave balanced loads
abbrev pub Balance : Loads → List Shift → Type 0
Balance loads shifts = (now : List ℕ) × AreAmong loads shifts × Leave shifts loads now × AreBalanced now

-- no shifts that leave balanced loads are fewer
abbrev pub IsFewest : Loads → List Shift → Type 0
IsFewest loads shifts = (other : List Shift) → Balance loads other → length shifts ≤ length other
