-- Texts cut at the first of a separator.
use Rattle.std.proofs.Common.{◌≡◌, ◌≢◌, ℕ, ◌+◌, ◌<◌, ◌-◌, true, false, nat_lt, ◌==◌, List, [], ◌∷◌, ◌++◌, length, reverse, get_or, take, drop, Option, Some, None, refl, sym, ap, ◌∙◌, arith, add-one, position}
use Rattle.std.proofs.lemmas.List.{get_or_append_left, get_or_at, take_at, drop_at, get_or-reverse, take-append-drop, length_push, append_assoc}
use Rattle.std.proofs.lemmas.List.Sums.{position_or_len_is}
use Rattle.std.proofs.lemmas.List.Quantifiers.{position-Some}
use Rattle.std.proofs.Math.Seq.{drop-cons}
use Rattle.std.proofs.lemmas.Bool.Decides.{nat_tests, Decides-eqb, Decides-ltb}
use Rattle.std.proofs.lemmas.Grind.{common_steps}
use Rattle.std.specs.List.{position_or_len}
use Rattle.hm_names.specs.Cuts.{cut_at, from_end, cut_first, cut_last}

-- no byte of the text is c
abbrev pub Lacks : ℕ → List ℕ → Type 0
Lacks c xs = (i : ℕ) → i < length xs → get_or xs i 0 ≢ c

same_test : (c : ℕ) → (c == c) ≡ true
same_test c = grind (arith, nat_tests)

position_or_len-at : (c : ℕ) (xs ys : List ℕ) → Lacks c xs → position_or_len (λ x. x == c) (xs ++ c ∷ ys) ≡ length xs
position_or_len-at c xs ys h =
    position_or_len_is (λ x. x == c) (xs ++ c ∷ ys) (length xs) 0 (grind (arith, common_steps))
    (λ k lt. let ne = h k lt in rw get_or_append_left (grind (arith, nat_tests))) (λ _. rw (get_or_at xs c ys 0 (length xs) refl) (same_test c))

position-at : (c : ℕ) (xs ys : List ℕ) → Lacks c xs → position (λ b. b == c) (xs ++ c ∷ ys) ≡ Some (length xs)
position-at c xs ys h =
    let at = position_or_len-at c xs ys h in
    let within : length xs < length (xs ++ c ∷ ys) = grind (arith, common_steps) in
    let test : nat_lt (length xs) (length (xs ++ c ∷ ys)) ≡ true = (Decides-ltb _ _).1 within in
    rw (at, test)

-- a text with a separator isn't empty
pub is_empty-at : (c : ℕ) (xs ys : List ℕ) → (length (xs ++ c ∷ ys) == 0) ≡ false
is_empty-at c xs ys = let some : 0 < length (xs ++ c ∷ ys) = grind (arith, common_steps) in grind (arith, nat_tests)

take-at : (c : ℕ) (xs ys : List ℕ) → take (length xs) (xs ++ c ∷ ys) ≡ xs
take-at c xs ys = take_at xs (c ∷ ys) (length xs) refl

drop-at : (c : ℕ) (xs ys : List ℕ) → drop (length xs + 1) (xs ++ c ∷ ys) ≡ ys
drop-at c xs ys = ap (drop (length xs + 1)) (sym (append_assoc xs (c ∷ []) ys)) ∙ drop_at (xs ++ c ∷ []) ys (length xs + 1) (length_push xs c)

-- the first separator stands after a text that lacks it
pub cut_first-at : (c : ℕ) (xs ys : List ℕ) → Lacks c xs → cut_first c (xs ++ c ∷ ys) ≡ Some (xs, ys)
unfolding cut_first
cut_first-at c xs ys h = let at = position-at c xs ys h in rw (at, take-at c xs ys, drop-at c xs ys)

-- a text is its parts round a byte of it
parts_at : (text : List ℕ) (i : ℕ) → i < length text → take i text ++ get_or text i 0 ∷ drop (i + 1) text ≡ text
parts_at text i within =
    let step = drop-cons text i 0 within in rw (add-one, ← step) (take-append-drop i text)

parts_at_first : (c : ℕ) (text : List ℕ) (i : ℕ) → position (λ b. b == c) text ≡ Some i → text ≡ take i text ++ c ∷ drop (i + 1) text
parts_at_first c text i e =
    let h = position-Some (λ b. b == c) text i 0 e in
    let is : get_or text i 0 ≡ c = (Decides-eqb _ _).0 h.1 in
    sym (ap (λ b. take i text ++ b ∷ drop (i + 1) text) (sym is) ∙ parts_at text i h.0)

pair_is : (p q : List ℕ × List ℕ) → Some p ≡ Some q → p ≡ q
pair_is p q e = cc

cut_at-Some : (c : ℕ) (text xs ys : List ℕ) (place : Option ℕ) → position (λ b. b == c) text ≡ place → cut_at text place ≡ Some (xs, ys) → text ≡ xs ++ c ∷ ys
cut_at-Some c text xs ys None at e = cc
cut_at-Some c text xs ys (Some i) at e =
    let parts = pair_is (take i text, drop (i + 1) text) (xs, ys) e in
    parts_at_first c text i at ∙ ap (λ (p : List ℕ × List ℕ). p.0 ++ c ∷ p.1) parts

-- a text is its parts round the first separator
pub cut_first-Some : (c : ℕ) (text xs ys : List ℕ) → cut_first c text ≡ Some (xs, ys) → text ≡ xs ++ c ∷ ys
unfolding cut_first
cut_first-Some c text xs ys e = cut_at-Some c text xs ys (position (λ b. b == c) text) refl e

position_or_len-Lacks : (c : ℕ) (xs : List ℕ) → Lacks c xs → position_or_len (λ x. x == c) xs ≡ length xs
position_or_len-Lacks c xs h =
    position_or_len_is (λ x. x == c) xs (length xs) 0 (omega arith) (λ k lt. let ne = h k lt in grind (arith, nat_tests)) (λ lt. absurd (omega arith))

-- a text without the separator isn't cut
pub cut_first-Lacks : (c : ℕ) (xs : List ℕ) → Lacks c xs → cut_first c xs ≡ None
unfolding cut_first
cut_first-Lacks c xs h =
    let at = position_or_len-Lacks c xs h in
    let test : nat_lt (length xs) (length xs) ≡ false = grind (arith, nat_tests) in
    rw (at, test)

-- the last separator stands before a text that lacks it
Lacks-reverse : (c : ℕ) (xs : List ℕ) → Lacks c xs → Lacks c (reverse xs)
Lacks-reverse c xs h i within e =
    let same : length (reverse xs) ≡ length xs = grind (arith, common_steps) in
    let other : i < length xs = omega arith in
    h (length xs - 1 - i) (omega arith) (sym (get_or-reverse xs i 0 other) ∙ e)

from_end-at : (len k n : ℕ) → len ≡ n + 1 + k → from_end len (Some k) ≡ Some n
from_end-at len k n e = ap Some (omega arith)

pub cut_last-at : (c : ℕ) (xs ys : List ℕ) → Lacks c ys → cut_last c (xs ++ c ∷ ys) ≡ Some (xs, ys)
unfolding cut_last
cut_last-at c xs ys h =
    let turned : reverse (xs ++ c ∷ ys) ≡ reverse ys ++ c ∷ reverse xs = grind (arith, common_steps) in
    let at = position-at c (reverse ys) (reverse xs) (Lacks-reverse c ys h) in
    let sizes : length (xs ++ c ∷ ys) ≡ length xs + 1 + length (reverse ys) = grind (arith, common_steps) in
    let place = from_end-at (length (xs ++ c ∷ ys)) (length (reverse ys)) (length xs) sizes in
    let parts : cut_at (xs ++ c ∷ ys) (Some (length xs)) ≡ Some (xs, ys) = rw (take-at c xs ys, drop-at c xs ys) in
    rw (turned, at) (ap (cut_at (xs ++ c ∷ ys)) place ∙ parts)
