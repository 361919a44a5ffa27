-- A text is read as a number exactly where it is the number's decimal.
use Rattle.std.proofs.Common.{◌≡◌, ◌≢◌, ℕ, ◌<◌, ◌^◌, ◌&&◌, Bool, true, false, cond, nat_lt, List, length, get_or, Option, Some, None, refl, sym, ap, ◌∙◌, subst, arith}
use Rattle.std.specs.Fmt.{decimal}
use Rattle.std.specs.Str.{bytes_eq}
use Rattle.std.specs.Str.Parse.{digits_value}
use Rattle.std.proofs.lemmas.Fmt.{decimal_is_IsNumeral}
use Rattle.std.proofs.lemmas.Slice.Eq.{bytes_eq-Decides}
use Rattle.std.proofs.lemmas.Bool.Decides.{Decides-ltb}
use Rattle.std.proofs.lemmas.Str.Parse.{digit_at}
use Rattle.hm_names.specs.Decimal.{number_of}

-- both tests passed where there is a number
both_pass : (a b : Bool) (m n : ℕ) → cond (a && b) (Some m) None ≡ Some n → (a ≡ true) × (b ≡ true) × (m ≡ n)
both_pass true true m n e = (refl, refl, cc)
both_pass true false m n e = cc
both_pass false b m n e = cc

-- some test failed where there is none
one_fails : (a b : Bool) (m : ℕ) → a ≡ true → b ≡ true → cond (a && b) (Some m) None ≡ Some m
one_fails a b m e f = rw (e, f)

pub number_of-Some : (text : List ℕ) (n : ℕ) → number_of text ≡ Some n → (text ≡ decimal n) × (n < 2 ^ 64)
unfolding number_of
number_of-Some text n e =
    let m = digits_value 10 text in
    let h = both_pass (bytes_eq text (decimal m)) (nat_lt m (2 ^ 64)) m n e in
    let same : text ≡ decimal m = (bytes_eq-Decides text (decimal m)).0 h.0 in
    let small : m < 2 ^ 64 = (Decides-ltb m (2 ^ 64)).0 h.1 in
    (same ∙ ap decimal h.2, subst (λ (k : ℕ). k < 2 ^ 64) h.2 small)

pub number_of-decimal : (n : ℕ) → n < 2 ^ 64 → number_of (decimal n) ≡ Some n
unfolding number_of
number_of-decimal n small =
    let value : digits_value 10 (decimal n) ≡ n = (decimal_is_IsNumeral n small).1 in
    let same : bytes_eq (decimal n) (decimal n) ≡ true = (bytes_eq-Decides (decimal n) (decimal n)).1 refl in
    let fits : nat_lt n (2 ^ 64) ≡ true = (Decides-ltb n (2 ^ 64)).1 small in
    rw value (one_fails (bytes_eq (decimal n) (decimal n)) (nat_lt n (2 ^ 64)) n same fits)

at_none : (text : List ℕ) → ((n : ℕ) → n < 2 ^ 64 → text ≢ decimal n) → (r : Option ℕ) → number_of text ≡ r → None ≡ number_of text
at_none text none None e = sym e
at_none text none (Some n) e =
    let h = number_of-Some text n e in
    let no = none n h.1 h.0 in absurd no

pub number_of-None : (text : List ℕ) → ((n : ℕ) → n < 2 ^ 64 → text ≢ decimal n) → None ≡ number_of text
number_of-None text none = at_none text none (number_of text) refl

-- a decimal's bytes are digits
pub digit_of_decimal : (n i : ℕ) → n < 2 ^ 64 → i < length (decimal n) → (47 < get_or (decimal n) i 0) × (get_or (decimal n) i 0 < 58)
digit_of_decimal n i small within =
    let h = digit_at (decimal n) i (decimal_is_IsNumeral n small).0.1 within in (omega arith, omega arith)
