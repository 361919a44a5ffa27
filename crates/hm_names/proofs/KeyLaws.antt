-- What a row key is printed as is read as the key.
use Rattle.std.proofs.Common.{◌≡◌, ℕ, suc, ◌+◌, ◌-◌, ◌*◌, ◌/◌, ◌%◌, ◌<◌, ◌≤◌, ◌==◌, nat_le, nat_lt, not, ◌&&◌, Bool, true, false, cond, List, [], ◌∷◌, ◌++◌, length, Some, Ok, refl, ap, ◌∙◌, inl, inr, arith}
use Rattle.std.specs.List.{flat_map}
use Rattle.std.specs.Str.{bytes_eq}
use Rattle.std.proofs.lemmas.Bool.Decides.{nat_tests}
use Rattle.std.proofs.lemmas.Bool.{cases_lt}
use Rattle.hm_names.proofs.Orders.{not_zero}
use Rattle.hm_names.specs.Keys.{IsRowKey, IsByteString, limited, limited_key, is_plain, hex_digit, byte_text, key_text, hex_value, first_byte, onto, onto_rest, spelled, read_key}

low_digit : (n : ℕ) → n < 10 → hex_value (hex_digit n) ≡ Some n
low_digit n small =
    let low : nat_lt n 10 ≡ true = grind (arith, nat_tests) in
    let above : nat_le 48 (48 + n) ≡ true = grind (arith, nat_tests) in
    let below : nat_le (48 + n) 57 ≡ true = grind (arith, nat_tests) in
    let value : 48 + n - 48 ≡ n = omega arith in rw (low, above, below, value)

high_digit : (n : ℕ) → 10 ≤ n → n < 16 → hex_value (hex_digit n) ≡ Some n
high_digit n large small =
    let low : nat_lt n 10 ≡ false = grind (arith, nat_tests) in
    let above : nat_le 48 (55 + n) ≡ true = grind (arith, nat_tests) in
    let past : nat_le (55 + n) 57 ≡ false = grind (arith, nat_tests) in
    let letter : nat_le 65 (55 + n) ≡ true = grind (arith, nat_tests) in
    let below : nat_le (55 + n) 70 ≡ true = grind (arith, nat_tests) in
    let value : 55 + n - 55 ≡ n = omega arith in rw (low, above, past, letter, below, value)

-- a digit's value is the number that it was printed for
hex_value-hex_digit : (n : ℕ) → n < 16 → hex_value (hex_digit n) ≡ Some n
hex_value-hex_digit n small = elim (cases_lt n 10) [ inl less ↦ low_digit n less | inr more ↦ high_digit n more small ]

plain_first : (b : ℕ) (rest : List ℕ) → is_plain b ≡ true → first_byte (b ∷ rest) ≡ Some (b, 0)
unfolding first_byte
plain_first b rest e = rw e

escaped_first : (b : ℕ) (rest : List ℕ) → b < 256 → first_byte (92 ∷ 120 ∷ hex_digit (b / 16) ∷ hex_digit (b % 16) ∷ rest) ≡ Some (b, 3)
unfolding first_byte
escaped_first b rest small =
    let high = hex_value-hex_digit (b / 16) (omega arith) in
    let low = hex_value-hex_digit (b % 16) (omega arith) in
    let long : nat_le 4 (length (92 ∷ 120 ∷ hex_digit (b / 16) ∷ hex_digit (b % 16) ∷ rest)) ≡ true = grind (arith, nat_tests) in
    let value : 16 * (b / 16) + b % 16 ≡ b = omega arith in rw (long, high, low, value)

spelled_byte : (b : ℕ) (plain : Bool) → is_plain b ≡ plain → b < 256 → (at : ℕ) (rest : List ℕ) → (more : ℕ) × (spelled 0 at (cond plain (b ∷ []) (92 ∷ 120 ∷ hex_digit (b / 16) ∷ hex_digit (b % 16) ∷ []) ++ rest) ≡ onto b (spelled 0 (at + more) rest))
spelled_byte b true e small at rest = (1, ap (λ first. onto_rest at first (λ more. spelled more (at + 1) rest)) (plain_first b rest e))
spelled_byte b false e small at rest =
    let place : at + 1 + 1 + 1 + 1 ≡ at + 4 = omega arith in
    (4, ap (λ first. onto_rest at first (λ more. spelled more (at + 1) (120 ∷ hex_digit (b / 16) ∷ hex_digit (b % 16) ∷ rest))) (escaped_first b rest small) ∙ ap (λ n. onto b (spelled 0 n rest)) place)

-- the printed bytes of a key spell the key
spelled-printed : (key : List ℕ) → IsByteString key → (at : ℕ) → spelled 0 at (flat_map byte_text key) ≡ Ok key
spelled-printed [] small at = refl
spelled-printed (b ∷ key) small at =
    let first = spelled_byte b (is_plain b) refl (small 0 0 (omega arith)) at (flat_map byte_text key) in
    first.1 ∙ ap (onto b) (spelled-printed key (λ k d inside. small (suc k) d (omega arith)) (at + first.0))

not_third : (x y z : Bool) → (x && y && not z) ≡ true → z ≡ false
not_third true true true e = cc
not_third true true false e = refl
not_third true false z e = cc
not_third false y z e = cc

-- a printed byte isn't the text of the empty key
other_text : (b : ℕ) (plain : Bool) → is_plain b ≡ plain → (rest : List ℕ) → bytes_eq (cond plain (b ∷ []) (92 ∷ 120 ∷ hex_digit (b / 16) ∷ hex_digit (b % 16) ∷ []) ++ rest) (92 ∷ 45 ∷ []) ≡ false
other_text b true e rest = ap (λ first. first && bytes_eq rest (45 ∷ [])) (not_third (nat_le 33 b) (nat_le b 126) (b == 92) e)
other_text b false e rest = refl

-- and has bytes
some_text : (b : ℕ) (plain : Bool) (rest : List ℕ) → (length (cond plain (b ∷ []) (92 ∷ 120 ∷ hex_digit (b / 16) ∷ hex_digit (b % 16) ∷ []) ++ rest) == 0) ≡ false
some_text b true rest = not_zero (length rest)
some_text b false rest = not_zero (suc (suc (suc (length rest))))

limited-short : (key : List ℕ) → IsRowKey key → limited key ≡ Ok key
limited-short key short = let test : nat_lt 128 (length key) ≡ false = grind (arith, nat_tests) in rw test

read_by : (text key : List ℕ) → (length text == 0) ≡ false → bytes_eq text (92 ∷ 45 ∷ []) ≡ false → spelled 0 0 text ≡ Ok key → IsRowKey key → read_key text ≡ Ok key
read_by text key some other spells short = rw (some, other) (ap limited_key spells ∙ limited-short key short)

pub read_key-key_text : (key : List ℕ) → IsByteString key → IsRowKey key → read_key (key_text key) ≡ Ok key
read_key-key_text [] small short = refl
read_key-key_text (b ∷ key) small short =
    let text = flat_map byte_text (b ∷ key) in
    let is : key_text (b ∷ key) ≡ text = ap (λ empty. cond empty (92 ∷ 45 ∷ []) text) (not_zero (length key)) in
    let some = some_text b (is_plain b) (flat_map byte_text key) in
    let other = other_text b (is_plain b) refl (flat_map byte_text key) in
    ap read_key is ∙ read_by text (b ∷ key) some other (spelled-printed (b ∷ key) small 0) short
