-- Lemmas on what readers of words answer.
use Rattle.std.proofs.Common.{◌≡◌, ◌⊎◌, ◌+◌, ◌-◌, ◌<◌, ◌≤◌, ℕ, suc, Result, Ok, Err, IsOk, List, [], ◌∷◌, ◌++◌, refl, sym, ap, ◌∙◌, append_assoc, arith, inl, inr, ⊎_elim}
use Rattle.hm_names.specs.declared.fault.NameFault.{NameFault}
use Rattle.hm_names.specs.declared.fault.NameFault.TheVariants as N
use Rattle.hm_script.specs.declared.bad.Why.{Why}
use Rattle.hm_script.specs.declared.bad.Why.TheVariants as W
use Rattle.hm_script.specs.Faults.{why_of}
use Rattle.hm_script.specs.declared.bad.Why.TheVariants.{Extra}
use Rattle.hm_script.specs.declared.keyword.Keyword.{Keyword}
use Rattle.hm_script.specs.Spellings.{Spelling, spelled}
use Rattle.hm_script.specs.Values.{Need, Value, named, read}
use Rattle.hm_script.specs.Shapes.{before, onto, onto_all, read_rest, upto}

pub onto_all-onto : (values : List Value) (value : Value) (others : Result (List Value) Why) → onto_all values (onto value others) ≡ onto_all (values ++ value ∷ []) others
onto_all-onto values value (Ok others) = ap Ok (sym (append_assoc values (value ∷ []) others))
onto_all-onto values value (Err why) = refl

-- one value before others, and two
pub onto_one : (value : Value) (others : Result (List Value) Why) → onto value others ≡ onto_all (value ∷ []) others
onto_one value (Ok others) = refl
onto_one value (Err why) = refl

pub onto_two : (first second : Value) (others : Result (List Value) Why) → onto first (onto second others) ≡ onto_all (first ∷ second ∷ []) others
onto_two first second (Ok others) = refl
onto_two first second (Err why) = refl

-- where at most so many words may stand and fewer do, another is read
pub upto_next : (need : Need) (most count : ℕ) (word : List ℕ) (words : List (List ℕ)) → count < most
    → read_rest (upto (most - count) need) (word ∷ words) ≡ before (read need word) (read_rest (upto (most - (count + 1)) need) words)
upto_next need most count word words few =
    ap (λ n. read_rest (upto n need) (word ∷ words)) (let e : most - count ≡ suc (most - (count + 1)) = omega (arith, few) in e)

-- and where so many do, it is one too many
pub upto_full : (need : Need) (most count : ℕ) (word : List ℕ) (words : List (List ℕ)) → most ≤ count → read_rest (upto (most - count) need) (word ∷ words) ≡ Err Extra
upto_full need most count word words all = ap (λ n. read_rest (upto n need) (word ∷ words)) (let e : most - count ≡ 0 = omega (arith, all) in e)

-- what is spelled with a keyword has it
pub spelled_keyword : (keyword : Keyword) (reading : Result (List Value) Why) (said : Spelling) → spelled keyword reading ≡ Ok said → keyword ≡ said.keyword
spelled_keyword keyword (Ok values) said e = let same : record { keyword = keyword; values = values } ≡ said = cc in ap (λ (s : Spelling). s.keyword) same
spelled_keyword keyword (Err why) said e = absurd (cc)

-- the fault of a name, and memory that ran out, as a line's
pub name_fault : {A : Type 0} (form : A → Value) (reading : Result A NameFault) (fault : NameFault) (why : Why) → why ≡ why_of fault
    → (reading ≡ Err fault) ⊎ ((fault ≡ N.Memory) × IsOk reading) → (why ≡ W.Memory) ⊎ (named form reading ≡ Err why)
name_fault form reading fault why e answers =
    ⊎_elim (λ r. inr (ap (named form) r ∙ ap Err (sym e))) (λ m. inl (e ∙ ap why_of m.0)) answers
