-- Bytes that pass a test of ASCII are a text.
use Rattle.std.proofs.Common.{◌≡◌, ℕ, ◌<◌, ◌≤◌, ◌==◌, Bool, true, false, cond, nat_lt, not, List, length, get_or, Option, Some, None, refl, arith}
use Rattle.std.specs.Str.{IsAscii}
use Rattle.std.specs.List.{position_or_len}
use Rattle.std.proofs.lemmas.List.Sums.{fails_before_first}
use Rattle.std.proofs.lemmas.Str.Ascii.{IsAscii-from_reads}
use Rattle.std.proofs.lemmas.Bool.Decides.{nat_tests}
use Rattle.hm_names.specs.declared.fault.NameFault.{NameFault}
use Rattle.hm_names.specs.declared.fault.NameFault.TheVariants.{Empty, TooLong}
use Rattle.hm_names.specs.Reading.{wrong_byte}
use Rattle.hm_names.specs.Names.{first_wrong, part_fault, is_ns_byte, ns_fault, is_qualifier_byte, first_wrong_of_qualifier, begins_wrong, qualifier_fault, is_host_byte, host_fault}

no_place : (b : Bool) (k : ℕ) → cond b (Some k) None ≡ None → b ≡ false
no_place true k e = cc
no_place false k e = refl

not_false : (b : Bool) → not b ≡ false → b ≡ true
not_false true e = refl
not_false false e = cc

-- where no byte is wrong each is right
pub right_at : (is_right : ℕ → Bool) (s : List ℕ) → first_wrong is_right s ≡ None → (i : ℕ) → i < length s → is_right (get_or s i 0) ≡ true
right_at is_right s e i within =
    let wrong = λ (b : ℕ). not (is_right b) in
    let all = no_place (nat_lt (position_or_len wrong s) (length s)) (position_or_len wrong s) e in
    let far : length s ≤ position_or_len wrong s = grind (arith, nat_tests) in
    not_false (is_right (get_or s i 0)) (fails_before_first wrong s i 0 (omega arith))

pub IsAscii-right : (is_right : ℕ → Bool) (s : List ℕ) → ((b : ℕ) → is_right b ≡ true → b < 128) → first_wrong is_right s ≡ None → IsAscii s
IsAscii-right is_right s small e = IsAscii-from_reads s (length s) (omega arith) (λ k within. small _ (right_at is_right s e k within))

none_of : (empty long : Bool) (a b : NameFault) (wrong : Option NameFault) → cond empty (Some a) (cond long (Some b) wrong) ≡ None → wrong ≡ None
none_of true long a b wrong e = cc
none_of false true a b wrong e = cc
none_of false false a b wrong e = e

no_byte : (at : ℕ) (wrong : Option ℕ) → wrong_byte at wrong ≡ None → wrong ≡ None
no_byte at None e = refl
no_byte at (Some k) e = cc

-- a part without a fault has no wrong byte
pub part_fault-None : (most at : ℕ) (part : List ℕ) (wrong : Option ℕ) → part_fault most at part wrong ≡ None → wrong ≡ None
part_fault-None most at part wrong e =
    no_byte at wrong (none_of (length part == 0) (nat_lt most (length part)) Empty (TooLong (length part)) (wrong_byte at wrong) e)

small_ns : (b : ℕ) → is_ns_byte b ≡ true → b < 128
small_ns b e = grind (arith, nat_tests)

pub IsAscii-ns : (s : List ℕ) → ns_fault 0 s ≡ None → IsAscii s
IsAscii-ns s e = IsAscii-right is_ns_byte s small_ns (part_fault-None 64 0 s (first_wrong is_ns_byte s) e)

small_qualifier : (b : ℕ) → is_qualifier_byte b ≡ true → b < 128
small_qualifier b e = grind (arith, nat_tests)

small_host : (b : ℕ) → is_host_byte b ≡ true → b < 128
small_host b e = grind (arith, nat_tests)

begins_right : (wrong : Bool) (rest : Option ℕ) → cond wrong (Some 0) rest ≡ None → rest ≡ None
begins_right true rest e = cc
begins_right false rest e = e

-- each byte of a qualifier is one that may stand in it
pub no_other : (s : List ℕ) → qualifier_fault 0 s ≡ None → first_wrong is_qualifier_byte s ≡ None
no_other s e =
    begins_right (begins_wrong s) (first_wrong is_qualifier_byte s) (part_fault-None 128 0 s (first_wrong_of_qualifier s) e)

pub IsAscii-qualifier : (s : List ℕ) → qualifier_fault 0 s ≡ None → IsAscii s
IsAscii-qualifier s e = IsAscii-right is_qualifier_byte s small_qualifier (no_other s e)

pub IsAscii-host : (s : List ℕ) → host_fault 0 s ≡ None → IsAscii s
IsAscii-host s e = IsAscii-right is_host_byte s small_host (part_fault-None 64 0 s (first_wrong is_host_byte s) e)
