-- A field has one spelling: what was read was spelled so, and what is spelled so is read.
use Rattle.std.proofs.Common.{◌≡◌, ℕ, zero, suc, ◌+◌, ◌*◌, ◌^◌, ◌/◌, ◌%◌, ◌<◌, ◌≤◌, Bool, true, false, cond, ltb, List, [], ◌∷◌, ◌++◌, length, slice_index, take, drop, Result, Ok, Err, refl, sym, ap, subst, ◌∙◌, append_assoc, arith, length-append, length-drop, inl, inr}
use Rattle.std.proofs.Math.Nat.{div-div-eq-div-mul, div-one, pow-succ'}
use Rattle.std.proofs.lemmas.Bool.{cases_lt, ltb-false, le-ltb}
use Rattle.std.proofs.lemmas.List.{drop_at, drop-drop, get_or-append-add, get_or_append_left, get_or_past, length-take-le, take_all, take_at, take-append-drop}
use Rattle.std.specs.Int.{byte_at, bytes_low_first}
use Rattle.byteorder.specs.Endian.{little_number, little_bytes}
use Rattle.byteorder.specs.Numbers.{length-bytes_low_first, little_from-cons, little_from-lt, little_number-reads_back}
use Rattle.hm_wire.specs.Input.{Input}
use Rattle.hm_wire.specs.Wire.{number_at, past, text, text_at, Takes}
use Rattle.hm_wire.specs.declared.fault.WireFault.{WireFault}
use Rattle.hm_wire.specs.declared.fault.WireFault.TheVariants.{Short, Range}

-- each fits eight bits
abbrev pub IsBytes : List ℕ → Type 0
IsBytes bytes = (i : ℕ) → slice_index bytes i < 256

-- a byte of a number, by its place
byte_at-pow : (k x : ℕ) → byte_at k x ≡ x / 256 ^ k % 256
byte_at-pow zero x = ap (λ (y : ℕ). y % 256) (sym (div-one x))
byte_at-pow (suc k) x = refl

-- the bytes from the second on are those of what is left above the first
bytes-shift : (n j x : ℕ) → bytes_low_first (suc j) n x ≡ bytes_low_first j n (x / 256)
bytes-shift zero j x = refl
bytes-shift (suc n) j x =
    let here : byte_at (suc j) x ≡ byte_at j (x / 256) =
    ap (λ (p : ℕ). x / p % 256) (pow-succ' 256 j) ∙ ap (λ (q : ℕ). q % 256) (sym (div-div-eq-div-mul x 256 (256 ^ j))) ∙ sym (byte_at-pow j (x / 256)) in
    rw (here, bytes-shift n (suc j) x) refl

-- the number in the first n bytes is spelled by these bytes
pub front : (n : ℕ) (xs : List ℕ) → n ≤ length xs → IsBytes xs → little_bytes n (little_number n xs) ≡ take n xs
front zero xs long fits = refl
front (suc n) [] long fits = absurd (omega arith)
front (suc n) (b ∷ xs) long fits =
    let byte : b < 256 = fits 0 in
    let above : little_number (suc n) (b ∷ xs) ≡ b + 256 * little_number n xs = ap (λ (m : ℕ). b + 256 * m) (little_from-cons 0 n b xs) in
    let low : little_number (suc n) (b ∷ xs) % 256 ≡ b = omega arith in
    let high : little_number (suc n) (b ∷ xs) / 256 ≡ little_number n xs = omega arith in
    let rest = front n xs (omega arith) (λ (i : ℕ). fits (suc i)) in
    let behind : bytes_low_first 1 n (little_number (suc n) (b ∷ xs)) ≡ take n xs = bytes-shift n 0 (little_number (suc n) (b ∷ xs)) ∙ ap (λ (m : ℕ). little_bytes n m) high ∙ rest in
    ap (λ (c : ℕ). c ∷ bytes_low_first 1 n (little_number (suc n) (b ∷ xs))) low ∙ ap (λ (ys : List ℕ). b ∷ ys) behind

-- bytes are the spelling of their number
pub own_spelling : (xs : List ℕ) → IsBytes xs → little_bytes (length xs) (little_number (length xs) xs) ≡ xs
own_spelling xs fits = front (length xs) xs (omega arith) fits ∙ take_all (length xs) xs (omega arith)

pub own_spelling_2 : (xs : List ℕ) → length xs ≡ 2 → IsBytes xs → little_bytes 2 (little_number 2 xs) ≡ xs
own_spelling_2 xs len fits = front 2 xs (omega arith) fits ∙ take_all 2 xs (omega arith)

pub own_spelling_8 : (xs : List ℕ) → length xs ≡ 8 → IsBytes xs → little_bytes 8 (little_number 8 xs) ≡ xs
own_spelling_8 xs len fits = front 8 xs (omega arith) fits ∙ take_all 8 xs (omega arith)

-- byte strings of one length with one number are one
pub same_bytes : (xs ys : List ℕ) → length xs ≡ length ys → IsBytes xs → IsBytes ys → little_number (length xs) xs ≡ little_number (length ys) ys → xs ≡ ys
same_bytes xs ys len fits_x fits_y number =
    sym (own_spelling xs fits_x) ∙ ap (λ (m : ℕ). little_bytes (length xs) m) number ∙ ap (λ (n : ℕ). little_bytes n (little_number (length ys) ys)) len ∙ own_spelling ys fits_y

-- bytes at the front of bytes
pub IsBytes-front : (xs ys : List ℕ) → IsBytes (xs ++ ys) → IsBytes xs
IsBytes-front xs ys fits i =
    elim (cases_lt i (length xs)) [
      | inl lt ↦ subst (λ (b : ℕ). b < 256) (get_or_append_left xs ys 0 i lt) (fits i)
      | inr le ↦ rw (get_or_past xs i 0 le) (omega arith)
    ]

-- bytes after bytes
pub IsBytes-behind : (xs ys : List ℕ) → IsBytes (xs ++ ys) → IsBytes ys
IsBytes-behind xs ys fits i = rw (← get_or-append-add xs ys i 0) (fits (length xs + i))

-- bytes in front of those that were taken
IsBytes-take : (n : ℕ) (xs : List ℕ) → IsBytes xs → IsBytes (take n xs)
IsBytes-take n xs fits = IsBytes-front (take n xs) (drop n xs) (rw (take-append-drop n xs) fits)

-- what is taken from bytes is bytes, and what is after
pub taken_fits : (i : Input) (bytes : List ℕ) (j : Input) → IsBytes i.rest → Takes i bytes j → IsBytes bytes × IsBytes j.rest
taken_fits i bytes j fits t =
    let whole : IsBytes (bytes ++ j.rest) = rw (← t.parts) fits in
    (IsBytes-front bytes j.rest whole, IsBytes-behind bytes j.rest whole)

-- one thing is taken after another
pub then_takes : (i : Input) (x : List ℕ) (j : Input) (y : List ℕ) (k : Input) → Takes i x j → Takes j y k → Takes i (x ++ y) k
then_takes i x j y k p q = record {
  parts = p.parts ∙ ap (λ (t : List ℕ). x ++ t) q.parts ∙ sym (append_assoc x y k.rest);
  place = omega (arith, p.place, q.place, length-append x y);
}

-- where a test isn't true, the read goes on
behind_test : {A : Type 0} (b : Bool) (e : WireFault) (read : Result A WireFault) (x : A) → cond b (Err e) read ≡ Ok x → (b ≡ false) × (read ≡ Ok x)
behind_test true (Short p) read x is = absurd cc
behind_test true (Range p) read x is = absurd cc
behind_test false e read x is = (refl, is)

abbrev read_as : {A : Type 0} → A → Result A WireFault
read_as x = Ok x

value_is : {A : Type 0} (x y : A) → read_as x ≡ read_as y → x ≡ y
value_is x y e = cc

-- n bytes are taken from the front
front_taken : (n : ℕ) (i : Input) → n ≤ length i.rest → Takes i (take n i.rest) (past n i)
front_taken n i long = record {
  parts = sym (take-append-drop n i.rest);
  place = ap (λ (m : ℕ). i.at + m) (sym (length-take-le n i.rest long));
}

-- a number that was read was spelled so
pub number_takes : (n : ℕ) (i : Input) (x : ℕ) (j : Input) → IsBytes i.rest → number_at n i ≡ Ok (x, j) → Takes i (little_bytes n x) j
number_takes n i x j fits is =
    let read = behind_test (ltb (length i.rest) n) (Short i.at) (Ok (little_number n i.rest, past n i)) (x, j) is in
    let long : n ≤ length i.rest = ltb-false _ _ read.0 in
    let made : Takes i (little_bytes n (little_number n i.rest)) (past n i) = rw (front n i.rest long fits) (front_taken n i long) in
    subst (λ (p : ℕ × Input). Takes i (little_bytes n p.0) p.1) (value_is (little_number n i.rest, past n i) (x, j) read.1) made

-- and fits its bytes
pub number_fits : (n : ℕ) (i : Input) (x : ℕ) (j : Input) → IsBytes i.rest → number_at n i ≡ Ok (x, j) → x < 256 ^ n
number_fits n i x j fits is =
    let read = behind_test (ltb (length i.rest) n) (Short i.at) (Ok (little_number n i.rest, past n i)) (x, j) is in
    subst (λ (p : ℕ × Input). p.0 < 256 ^ n) (value_is (little_number n i.rest, past n i) (x, j) read.1) (little_from-lt 0 n i.rest fits)

-- a number that is spelled so is read
pub number_again : (n x at : ℕ) (more : List ℕ) → x < 256 ^ n
    → number_at n (record { at = at; rest = little_bytes n x ++ more }) ≡ Ok (x, record { at = at + n; rest = more })
number_again n x at more fits =
    let len = length-bytes_low_first 0 n x in
    let long : ltb (length (little_bytes n x ++ more)) n ≡ false = le-ltb _ _ (omega (arith, length-append (little_bytes n x) more)) in
    rw (long, little_number-reads_back n x more fits, drop_at (little_bytes n x) more n len) refl

abbrev input : ℕ → List ℕ → Input
input at rest = record { at = at; rest = rest }

input_is : (a b : ℕ) (xs ys : List ℕ) → a ≡ b → xs ≡ ys → input a xs ≡ input b ys
input_is a b xs ys p q = ap (λ (n : ℕ). input n xs) p ∙ ap (λ (zs : List ℕ). input b zs) q

-- a text of n bytes after two bytes is taken
text_taken : (n : ℕ) (i : Input) → IsBytes i.rest → 2 + n ≤ length i.rest → n ≡ little_number 2 i.rest
    → Takes i (text (take n (drop 2 i.rest))) (past (2 + n) i)
text_taken n i fits long is =
    let len : length (take n (drop 2 i.rest)) ≡ n = length-take-le n (drop 2 i.rest) (omega (arith, length-drop 2 i.rest)) in
    let head : little_bytes 2 (length (take n (drop 2 i.rest))) ≡ take 2 i.rest = ap (λ (m : ℕ). little_bytes 2 m) (len ∙ is) ∙ front 2 i.rest (omega arith) fits in
    let first = front_taken 2 i (omega arith) in
    let second : Takes (past 2 i) (take n (drop 2 i.rest)) (past n (past 2 i)) = front_taken n (past 2 i) (omega (arith, length-drop 2 i.rest)) in
    let both = then_takes i (take 2 i.rest) (past 2 i) (take n (drop 2 i.rest)) (past n (past 2 i)) first second in
    let same : past n (past 2 i) ≡ past (2 + n) i = input_is (i.at + 2 + n) (i.at + (2 + n)) (drop n (drop 2 i.rest)) (drop (2 + n) i.rest) (omega arith) (drop-drop n 2 i.rest) in
    subst (λ (h : List ℕ). Takes i (h ++ take n (drop 2 i.rest)) (past (2 + n) i)) (sym head) (subst (λ (j : Input). Takes i (take 2 i.rest ++ take n (drop 2 i.rest)) j) same both)

-- a text that should have n bytes
abbrev found : ℕ → Input → List ℕ × Input
found n i = (take n (drop 2 i.rest), past (2 + n) i)

abbrev not_too_long : ℕ → ℕ → Input → Result (List ℕ × Input) WireFault
not_too_long most n i = cond (ltb most n) (Err (Range i.at)) (Ok (found n i))

abbrev within_rest : ℕ → ℕ → Input → Result (List ℕ × Input) WireFault
within_rest most n i = cond (ltb (length i.rest) (2 + n)) (Err (Short i.at)) (not_too_long most n i)

abbrev text_with : ℕ → ℕ → Input → Result (List ℕ × Input) WireFault
text_with most n i = cond (ltb (length i.rest) 2) (Err (Short i.at)) (within_rest most n i)

-- a text that was read, by its length
read_text : (most n : ℕ) (i : Input) (x : List ℕ × Input) → text_with most n i ≡ Ok x → (2 + n ≤ length i.rest) × (n ≤ most) × (found n i ≡ x)
read_text most n i x is =
    let first = behind_test (ltb (length i.rest) 2) (Short i.at) (within_rest most n i) x is in
    let second = behind_test (ltb (length i.rest) (2 + n)) (Short i.at) (not_too_long most n i) x first.1 in
    let third = behind_test (ltb most n) (Range i.at) (Ok (found n i)) x second.1 in
    (ltb-false _ _ second.0, ltb-false _ _ third.0, value_is (found n i) x third.1)

-- a text that was read was spelled so
pub text_takes : (most : ℕ) (i : Input) (s : List ℕ) (j : Input) → IsBytes i.rest → text_at most i ≡ Ok (s, j) → Takes i (text s) j
text_takes most i s j fits is =
    let read = read_text most (little_number 2 i.rest) i (s, j) is in
    subst (λ (p : List ℕ × Input). Takes i (text p.0) p.1) read.2 (text_taken (little_number 2 i.rest) i fits read.0 refl)

-- and isn't longer than it may be
pub text_fits : (most : ℕ) (i : Input) (s : List ℕ) (j : Input) → text_at most i ≡ Ok (s, j) → length s ≤ most
text_fits most i s j is =
    let n : ℕ = little_number 2 i.rest in
    let read = read_text most n i (s, j) is in
    let len : length (take n (drop 2 i.rest)) ≡ n = length-take-le n (drop 2 i.rest) (omega (arith, read.0, length-drop 2 i.rest)) in
    subst (λ (p : List ℕ × Input). length p.0 ≤ most) read.2 (subst (λ (m : ℕ). m ≤ most) (sym len) read.1)

-- the text that the tests choose
text_chosen : (most n : ℕ) (i : Input) → 2 ≤ length i.rest → 2 + n ≤ length i.rest → n ≤ most → text_with most n i ≡ Ok (found n i)
text_chosen most n i two long short =
    rw (le-ltb (length i.rest) 2 two, le-ltb (length i.rest) (2 + n) long, le-ltb most n short) refl

found_is : (n : ℕ) (i : Input) (s more : List ℕ) → take n (drop 2 i.rest) ≡ s → drop (2 + n) i.rest ≡ more → found n i ≡ (s, input (i.at + (2 + n)) more)
found_is n i s more is behind = rw (is, behind) refl

-- a text that is spelled so is read
pub text_again : (most : ℕ) (s : List ℕ) (at : ℕ) (more : List ℕ) → length s ≤ most → length s < 2 ^ 16
    → text_at most (record { at = at; rest = text s ++ more }) ≡ Ok (s, record { at = at + (2 + length s); rest = more })
text_again most s at more short small =
    let rest : List ℕ = text s ++ more in
    let i : Input = input at rest in
    let parts : rest ≡ little_bytes 2 (length s) ++ (s ++ more) = append_assoc (little_bytes 2 (length s)) s more in
    let number : little_number 2 rest ≡ length s = ap (λ (t : List ℕ). little_number 2 t) parts ∙ little_number-reads_back 2 (length s) (s ++ more) small in
    let behind_two : drop 2 rest ≡ s ++ more = ap (λ (t : List ℕ). drop 2 t) parts ∙ drop_at (little_bytes 2 (length s)) (s ++ more) 2 refl in
    let whole : length rest ≡ 2 + (length s + length more) = ap (λ (t : List ℕ). length t) parts ∙ omega (arith, length-append s more) in
    let is : take (length s) (drop 2 rest) ≡ s = ap (λ (t : List ℕ). take (length s) t) behind_two ∙ take_at s more (length s) refl in
    let behind : drop (2 + length s) rest ≡ more = sym (drop-drop (length s) 2 rest) ∙ ap (λ (t : List ℕ). drop (length s) t) behind_two ∙ drop_at s more (length s) refl in
    ap (λ (n : ℕ). text_with most n i) number ∙ text_chosen most (length s) i (omega arith) (omega arith) short ∙ ap (λ (p : List ℕ × Input). read_as p) (found_is (length s) i s more is behind)
