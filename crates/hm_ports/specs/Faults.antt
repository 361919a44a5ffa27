-- How a count of faults rises, and what a failed call may blame.
use Rattle.std.specs.Prelude.{ℕ, ◌+◌, ◌-◌, ◌^◌, ◌≤◌, min, Result, OnErr}

-- the count after one more, which stays at the end of its type
abbrev pub raised : ℕ → ℕ
raised count = min (count + 1) (2 ^ 64 - 1)

-- the count rose, or stands at the end of its type
abbrev pub Rose : ℕ → ℕ → Type 0
Rose old new = min (old + 1) (2 ^ 64 - 1) ≤ new

-- the count doesn't fall, and a failure raises it
pub record HasCause {T E : Type 0} (old new : ℕ) (result : Result T E) : Type 0 where
  pub later : old ≤ new
  pub failed : OnErr result (Rose old new)
