-- How a content with marked bytes replaced goes through writes and cuts.
use Rattle.std.proofs.Common.{◌≡◌, ℕ, zero, suc, ◌+◌, ◌≤◌, ◌<◌, List, [], ◌∷◌, ◌++◌, length, take, drop, replicate, get_or, set, refl, sym, ◌∙◌, ap, arith, add-one, append_assoc, length-append}
use Rattle.std.specs.Prelude.{if◌then◌else◌, ◌==◌, ◌≢◌}
use Rattle.std.proofs.Math.Seq.{take-suc-set}
use Rattle.std.proofs.lemmas.Bool.Decides.{nat_tests}
use Rattle.std.proofs.lemmas.Grind.{common_steps}
use Rattle.std.proofs.lemmas.List.{drop_more, drop-set-lt, length-take}
use Rattle.hm_disk.specs.Disk.{written}
use Rattle.hm_disk.specs.Memory.{filled}

filled-nil : (v : ℕ) (marks : List ℕ) → filled v marks [] ≡ []
filled-nil v [] = refl
filled-nil v (m ∷ marks) = refl

pub length-filled : (v : ℕ) (marks bytes : List ℕ) → length marks ≡ length bytes → length (filled v marks bytes) ≡ length bytes
length-filled v [] [] same = refl
length-filled v [] (b ∷ bytes) same = absurd (omega arith)
length-filled v (m ∷ marks) [] same = absurd (omega arith)
length-filled v (m ∷ marks) (b ∷ bytes) same = omega (arith, length-filled v marks bytes (omega arith))

pub filled-take : (v n : ℕ) (marks bytes : List ℕ) → filled v (take n marks) (take n bytes) ≡ take n (filled v marks bytes)
filled-take v zero marks bytes = refl
filled-take v (suc n) [] bytes = refl
filled-take v (suc n) (m ∷ marks) [] = refl
filled-take v (suc n) (m ∷ marks) (b ∷ bytes) = ap (λ (l : List ℕ). (if m == 1 then v else b) ∷ l) (filled-take v n marks bytes)

filled-drop : (v n : ℕ) (marks bytes : List ℕ) → filled v (drop n marks) (drop n bytes) ≡ drop n (filled v marks bytes)
filled-drop v zero marks bytes = refl
filled-drop v (suc n) [] bytes = refl
filled-drop v (suc n) (m ∷ marks) [] = filled-nil v (drop n marks)
filled-drop v (suc n) (m ∷ marks) (b ∷ bytes) = filled-drop v n marks bytes

filled-append : (v : ℕ) (marks more bytes rest : List ℕ) → length marks ≡ length bytes → filled v (marks ++ more) (bytes ++ rest) ≡ filled v marks bytes ++ filled v more rest
filled-append v [] more [] rest same = refl
filled-append v [] more (b ∷ bytes) rest same = absurd (omega arith)
filled-append v (m ∷ marks) more [] rest same = absurd (omega arith)
filled-append v (m ∷ marks) more (b ∷ bytes) rest same = ap (λ (l : List ℕ). (if m == 1 then v else b) ∷ l) (filled-append v marks more bytes rest (omega arith))

-- bytes and their marks are written at the same place
pub filled-written : (v at : ℕ) (over marks new bytes : List ℕ) → length marks ≡ length bytes → length over ≡ length new → at ≤ length bytes → filled v (written at over marks) (written at new bytes) ≡ written at (filled v over new) (filled v marks bytes)
filled-written v at over marks new bytes same also low =
    let n = length new in
    let fronts : length (take at marks) ≡ length (take at bytes) = omega (arith, length-take at marks, length-take at bytes) in
    filled-append v (take at marks ++ over) (drop (at + length over) marks) (take at bytes ++ new) (drop (at + n) bytes) (omega (arith, fronts, length-append (take at marks) over, length-append (take at bytes) new))
    ∙ ap (λ (l : List ℕ). l ++ filled v (drop (at + length over) marks) (drop (at + n) bytes)) (filled-append v (take at marks) over (take at bytes) new fronts ∙ ap (λ (l : List ℕ). l ++ filled v over new) (filled-take v at marks bytes))
    ∙ ap (λ (k : ℕ). take at (filled v marks bytes) ++ filled v over new ++ filled v (drop (at + k) marks) (drop (at + n) bytes)) also
    ∙ ap (λ (l : List ℕ). take at (filled v marks bytes) ++ filled v over new ++ l) (filled-drop v (at + n) marks bytes)
    ∙ ap (λ (k : ℕ). take at (filled v marks bytes) ++ filled v over new ++ drop (at + k) (filled v marks bytes)) (sym (length-filled v over new also))

-- no mark, no change
pub filled-none : (v : ℕ) (bytes : List ℕ) → filled v (replicate (length bytes) 0) bytes ≡ bytes
filled-none v [] = refl
filled-none v (b ∷ bytes) = ap (λ (l : List ℕ). b ∷ l) (filled-none v bytes)

first_filled : (v i : ℕ) (marks bytes : List ℕ) → i < length marks → i < length bytes → filled v (drop i marks) (drop i bytes) ≡ (if get_or marks i 0 == 1 then v else get_or bytes i 0) ∷ filled v (drop (i + 1) marks) (drop (i + 1) bytes)
first_filled v i marks bytes m b = ap (λ (l : List ℕ). filled v l (drop i bytes)) (drop_more marks i 0 m) ∙ ap (λ (l : List ℕ). filled v (get_or marks i 0 ∷ drop (i + 1) marks) l) (drop_more bytes i 0 b)

-- one byte more has been replaced in place
pub fill_next : (v i : ℕ) (marks bytes new goal : List ℕ) → i < length marks → i < length bytes → new ≡ set bytes i (if get_or marks i 0 == 1 then v else get_or bytes i 0)
    → take i bytes ++ filled v (drop i marks) (drop i bytes) ≡ goal → take (i + 1) new ++ filled v (drop (i + 1) marks) (drop (i + 1) new) ≡ goal
fill_next v i marks bytes new goal m b is so_far =
    let x : ℕ = if get_or marks i 0 == 1 then v else get_or bytes i 0 in
    let front : take (i + 1) new ≡ take i bytes ++ x ∷ [] = ap (λ (l : List ℕ). take (i + 1) l) is ∙ (rw add-one (take-suc-set bytes i x b)) in
    let over : drop (i + 1) new ≡ drop (i + 1) bytes = ap (λ (l : List ℕ). drop (i + 1) l) is ∙ drop-set-lt (i + 1) bytes i x (omega arith) in
    ap (λ (l : List ℕ). l ++ filled v (drop (i + 1) marks) (drop (i + 1) new)) front
    ∙ ap (λ (l : List ℕ). take i bytes ++ x ∷ [] ++ filled v (drop (i + 1) marks) l) over
    ∙ append_assoc (take i bytes) (x ∷ []) (filled v (drop (i + 1) marks) (drop (i + 1) bytes))
    ∙ ap (λ (l : List ℕ). take i bytes ++ l) (sym (first_filled v i marks bytes m b))
    ∙ so_far

-- a byte without a mark stays
pub unmarked : (v i : ℕ) (marks bytes : List ℕ) → i < length bytes → get_or marks i 0 ≢ 1 → bytes ≡ set bytes i (if get_or marks i 0 == 1 then v else get_or bytes i 0)
unmarked v i marks bytes b other = grind (arith, nat_tests, common_steps)
