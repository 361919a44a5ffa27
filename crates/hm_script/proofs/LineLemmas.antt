-- Lemmas on lines.
use Rattle.std.proofs.Common.{◌≡◌, ◌≢◌, ℕ, ◌<◌, List, [], ◌∷◌, ◌++◌, length, refl, ap, subst, ◌∙◌, append_assoc, arith, ⊎_elim}
use Rattle.std.proofs.lemmas.Bool.Decides.{nat_tests}
use Rattle.std.specs.List.{AllByRecursion}
use Rattle.hm_script.specs.Lines.{lines_of, IsLineOf}

-- a line that ends in no carriage return, and its newline
lines_plain : (line rest : List ℕ) → AllByRecursion (λ b. b ≢ 10) line → ((front : List ℕ) → line ≢ front ++ 13 ∷ []) → lines_of (line ++ 10 ∷ rest) ≡ line ∷ lines_of rest
lines_plain [] rest n none = refl
lines_plain (b ∷ []) rest n none =
    let not_newline = n.0 in
    let not_return : b ≢ 13 = λ e. none [] (ap (λ c. c ∷ []) e) in
    grind (arith, nat_tests)
lines_plain (b ∷ c ∷ line) rest n none =
    let not_newline = n.0 in
    let next = n.1.0 in
    rw (lines_plain (c ∷ line) rest n.1 (λ front e. none (b ∷ front) (ap (λ s. b ∷ s) e))) (grind (arith, nat_tests))

-- a line, a carriage return and a newline
lines_returned : (line rest : List ℕ) → AllByRecursion (λ b. b ≢ 10) line → lines_of (line ++ 13 ∷ 10 ∷ rest) ≡ line ∷ lines_of rest
lines_returned [] rest n = refl
lines_returned (b ∷ []) rest n = let not_newline = n.0 in grind (arith, nat_tests)
lines_returned (b ∷ c ∷ line) rest n =
    let not_newline = n.0 in
    let next = n.1.0 in
    rw (lines_returned (c ∷ line) rest n.1) (grind (arith, nat_tests))

front_all : (P : ℕ → Type 0) (xs ys : List ℕ) → AllByRecursion P (xs ++ ys) → AllByRecursion P xs
front_all P [] ys all = tt
front_all P (x ∷ xs) ys all = (all.0, front_all P xs ys all.1)

pub lines_ended : (line ended rest : List ℕ) → AllByRecursion (λ b. b ≢ 10) ended → IsLineOf line ended → lines_of (ended ++ 10 ∷ rest) ≡ line ∷ lines_of rest
lines_ended line ended rest n is = ⊎_elim
    (λ e. ap (λ l. lines_of (l ++ 10 ∷ rest)) e ∙ ap lines_of (append_assoc line (13 ∷ []) (10 ∷ rest))
    ∙ lines_returned line rest (front_all _ line (13 ∷ []) (subst (λ l. AllByRecursion (λ b. b ≢ 10) l) e n)))
    (λ p. ap (λ l. lines_of (l ++ 10 ∷ rest)) p.0
    ∙ lines_plain line rest (subst (λ l. AllByRecursion (λ b. b ≢ 10) l) p.0 n) (λ front e. p.1 front (p.0 ∙ e))) is

lines_last : (b : ℕ) (line : List ℕ) → AllByRecursion (λ b. b ≢ 10) (b ∷ line) → lines_of (b ∷ line) ≡ (b ∷ line) ∷ []
lines_last b [] n = let not_newline = n.0 in grind (arith, nat_tests)
lines_last b (c ∷ line) n =
    let not_newline = n.0 in
    let next = n.1.0 in
    rw (lines_last c line n.1) (grind (arith, nat_tests))

pub lines_whole : (line : List ℕ) → 0 < length line → AllByRecursion (λ b. b ≢ 10) line → lines_of line ≡ line ∷ []
lines_whole [] some n = absurd (omega arith)
lines_whole (b ∷ line) some n = lines_last b line n
