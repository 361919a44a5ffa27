-- The key that a text stands for, byte by byte.
use Rattle.std.proofs.Common.{◌≡◌, ℕ, zero, suc, ◌+◌, ◌<◌, ◌≤◌, List, [], ◌∷◌, ◌++◌, length, drop, Some, None, Result, Ok, Err, refl, sym, ap, ◌∙◌, arith, append_assoc}
use Rattle.std.proofs.lemmas.Grind.{common_steps}
use Rattle.hm_names.specs.declared.fault.NameFault.{NameFault}
use Rattle.hm_names.specs.declared.fault.NameFault.TheVariants.{BadByte}
use Rattle.hm_names.specs.Keys.{first_byte, onto, spelled}
use Rattle.hm_names.specs.KeyLength.{sized}

-- so many bytes more than a length
abbrev pub added : ℕ → Result ℕ NameFault → Result ℕ NameFault
added n (Ok m) = Ok (n + m)
added n (Err fault) = Err fault

-- bytes in front of a key
abbrev pub with_front : List ℕ → Result (List ℕ) NameFault → Result (List ℕ) NameFault
with_front xs (Ok key) = Ok (xs ++ key)
with_front xs (Err fault) = Err fault

-- what is skipped doesn't matter
pub skipped : (more at : ℕ) (text : List ℕ) → more ≤ length text → spelled more at text ≡ spelled 0 (at + more) (drop more text)
skipped zero at text h = ap (λ n. spelled 0 n text) (omega arith)
skipped (suc more) at [] h = absurd (omega arith)
skipped (suc more) at (b ∷ text) h =
    skipped more (at + 1) text (omega arith) ∙ ap (λ n. spelled 0 n (drop more text)) (omega arith)

pub none_at : (at : ℕ) (text : List ℕ) → 0 < length text → first_byte text ≡ None → spelled 0 at text ≡ Err (BadByte at)
none_at at [] h e = absurd (omega arith)
none_at at (b ∷ text) h e = rw e

pub some_at : (at byte more : ℕ) (text : List ℕ) → more < length text → first_byte text ≡ Some (byte, more) → spelled 0 at text ≡ onto byte (spelled 0 (at + (more + 1)) (drop (more + 1) text))
some_at at byte more [] h e = absurd (omega arith)
some_at at byte more (b ∷ text) h e =
    let rest = skipped more (at + 1) text (omega arith) in
    let place : at + 1 + more ≡ at + (more + 1) = omega arith in
    let tail : drop more text ≡ drop (more + 1) (b ∷ text) = let suc_is : suc more ≡ more + 1 = omega arith in ap (λ n. drop n (b ∷ text)) suc_is in
    rw e (ap (onto byte) (rest ∙ ap (λ n. spelled 0 n (drop more text)) place ∙ ap (spelled 0 (at + (more + 1))) tail))

drop_further : (text : List ℕ) (at n : ℕ) → drop n (drop at text) ≡ drop (at + n) text
drop_further text at n = grind (arith, common_steps)

-- one byte of the text at a place
pub spelled_step : (text : List ℕ) (at byte more : ℕ) → more < length (drop at text) → first_byte (drop at text) ≡ Some (byte, more) → spelled 0 at (drop at text) ≡ onto byte (spelled 0 (at + (more + 1)) (drop (at + (more + 1)) text))
spelled_step text at byte more h e =
    some_at at byte more (drop at text) h e ∙ ap (λ rest. onto byte (spelled 0 (at + (more + 1)) rest)) (drop_further text at (more + 1))

sized_onto : (n byte : ℕ) (key : Result (List ℕ) NameFault) → added n (sized (onto byte key)) ≡ added (n + 1) (sized key)
sized_onto n byte (Ok key) = ap Ok (omega arith)
sized_onto n byte (Err fault) = refl

pub count_step : (n byte : ℕ) (here rest : Result (List ℕ) NameFault) (all : Result ℕ NameFault) → here ≡ onto byte rest → added n (sized here) ≡ all → added (n + 1) (sized rest) ≡ all
count_step n byte here rest all e h = sym (sized_onto n byte rest) ∙ ap (λ r. added n (sized r)) (sym e) ∙ h

front_onto : (xs : List ℕ) (byte : ℕ) (key : Result (List ℕ) NameFault) → with_front (xs ++ byte ∷ []) key ≡ with_front xs (onto byte key)
front_onto xs byte (Ok key) = ap Ok (append_assoc xs (byte ∷ []) key)
front_onto xs byte (Err fault) = refl

pub front_step : (xs : List ℕ) (byte : ℕ) (here rest all : Result (List ℕ) NameFault) → here ≡ onto byte rest → with_front xs here ≡ all → with_front (xs ++ byte ∷ []) rest ≡ all
front_step xs byte here rest all e h = front_onto xs byte rest ∙ ap (with_front xs) (sym e) ∙ h
