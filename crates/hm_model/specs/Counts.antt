-- How many numbers pass a test.
use Rattle.std.specs.Prelude.{Bool, if◌then◌else◌, suc, zero, ℕ, ◌+◌}

-- 1 for what holds
abbrev pub one_if : Bool → ℕ
one_if holds = if holds then 1 else 0

-- how many numbers below n pass the test
abbrev pub count_below : (ℕ → Bool) → ℕ → ℕ
count_below test zero = 0
count_below test (suc n) = count_below test n + one_if (test n)
