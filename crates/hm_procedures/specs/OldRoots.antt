-- A list of the roots of a base: in what order, and who is found in it.
use Rattle.std.specs.Prelude.{◌≡◌, ◌≢◌, ℕ, ◌<◌, List, Option, Some, None, slice_get}
use Rattle.hm_data.specs.declared.record.Record.{Record}

-- the numbers of roots rise
abbrev pub AreRising : List Record → Type 0
AreRising shown =
    (i j : ℕ) (one other : Record) → i < j → slice_get shown i ≡ Some one → slice_get shown j ≡ Some other
    → (let a = one.pid in a.0) < (let b = other.pid in b.0)

-- the root that has a number, or none has it
abbrev pub IsFound : List Record → ℕ → Option Record → Type 0
IsFound shown p None = (i : ℕ) (one : Record) → slice_get shown i ≡ Some one → (let pid = one.pid in pid.0) ≢ p
IsFound shown p (Some one) = ((let pid = one.pid in pid.0) ≡ p) × (i : ℕ) × (slice_get shown i ≡ Some one)
