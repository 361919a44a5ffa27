-- A part's fault but for the place.
use Rattle.std.proofs.Common.{◌≡◌, ℕ, ◌==◌, Bool, true, false, cond, nat_lt, List, length, Option, Some, None, refl}
use Rattle.hm_names.specs.declared.fault.NameFault.{NameFault}
use Rattle.hm_names.specs.declared.fault.NameFault.TheVariants.{Empty, TooLong}
use Rattle.hm_names.specs.Names.{qualifier_fault, first_wrong_of_qualifier}
use Rattle.hm_names.specs.Reading.{wrong_byte}

moved_part : (at to : ℕ) (empty long : Bool) (a b : NameFault) (wrong : Option ℕ)
    → cond empty (Some a) (cond long (Some b) (wrong_byte at wrong)) ≡ None
    → cond empty (Some a) (cond long (Some b) (wrong_byte to wrong)) ≡ None
moved_part at to true long a b wrong e = cc
moved_part at to false true a b wrong e = cc
moved_part at to false false a b None e = refl
moved_part at to false false a b (Some k) e = cc

-- a qualifier without a fault at one place has none at another
pub qualifier_at : (at to : ℕ) (s : List ℕ) → qualifier_fault at s ≡ None → qualifier_fault to s ≡ None
qualifier_at at to s e =
    moved_part at to (length s == 0) (nat_lt 128 (length s)) Empty (TooLong (length s)) (first_wrong_of_qualifier s) e

pub qualifier_moved : (at : ℕ) (s : List ℕ) → qualifier_fault at s ≡ None → qualifier_fault 0 s ≡ None
qualifier_moved at s e = qualifier_at at 0 s e

pub ruleset moved = (qualifier_moved)
