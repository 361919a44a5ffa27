-- What the numbers that a seat owes keep.
use Rattle.std.specs.Prelude.{◌≡◌, ℕ, ◌+◌, ◌≤◌, List, [], ◌++◌}
use Rattle.hm_gate.specs.Total.{times, among, beyond}

-- what a seat owes once it left, with what it noted as it went in, is what it owed with the outs that it left
abbrev pub OwingAddsUp : Type 0
OwingAddsUp =
    (n : ℕ) (owes noted outs : List ℕ) → times n noted ≤ 1 → times n outs ≤ 1 → times n owes ≤ times n noted
    → (times n noted ≡ 1 → times n outs ≡ 0 → times n owes ≡ 1)
    → times n (among outs owes ++ beyond noted outs) + times n noted ≡ times n owes + times n outs

-- a seat that owes no number owes nothing
abbrev pub OwesNothing : Type 0
OwesNothing = (owes : List ℕ) → ((n : ℕ) → times n owes ≡ 0) → owes ≡ []
