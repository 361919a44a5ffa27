-- Editions by number, where the sheets of one are put.
use Rattle.std.proofs.Common.{◌≡◌, ◌≢◌, ℕ, suc, ◌<◌, ◌≤◌, List, [], ◌∷◌, ◌++◌, length, set, Bool, true, false, ◌==◌, if◌then◌else◌, Some, refl, arith, ap, sym, ◌∙◌}
use Rattle.std.proofs.lemmas.Bool.{cond-true, cond-false, eqb-true, eq-eqb, ne_eqb}
use Rattle.hm_sheet.specs.Learnt.{learnt_at, place_in}
use Rattle.hm_sheet.specs.declared.learnt.Edition.{Edition}

own_first : (l : List Edition) (edition : Edition) → learnt_at (edition ∷ l) edition.number ≡ Some edition.sheets
own_first l edition =
    cond-true (edition.number == edition.number) (Some edition.sheets) (learnt_at l edition.number) (eq-eqb edition.number edition.number refl)

behind_first : (l : List Edition) (first : Edition) (number : ℕ) → number ≢ first.number → learnt_at (first ∷ l) number ≡ learnt_at l number
behind_first l first number differs =
    cond-false (first.number == number) (Some first.sheets) (learnt_at l number) (ne_eqb first.number number (λ e. differs (sym e)))

own_set_by : (own : Bool) (first edition : Edition) (l : List Edition) (place : ℕ) → (first.number == edition.number) ≡ own
    → (place < length l → learnt_at (set l place edition) edition.number ≡ Some edition.sheets)
    → (if own then 0 else suc place) < suc (length l) → learnt_at (set (first ∷ l) (if own then 0 else suc place) edition) edition.number ≡ Some edition.sheets
own_set_by true first edition l place is later lt = own_first l edition
own_set_by false first edition l place is later lt =
    cond-false (first.number == edition.number) (Some first.sheets) (learnt_at (set l place edition) edition.number) is
    ∙ later (omega (arith, lt))

-- one that is written over that of its number has its sheets
pub own_set : (l : List Edition) (edition : Edition) → place_in l edition.number < length l → learnt_at (set l (place_in l edition.number) edition) edition.number ≡ Some edition.sheets
own_set [] edition lt = absurd (omega (arith, lt))
own_set (first ∷ l) edition lt =
    own_set_by (first.number == edition.number) first edition l (place_in l edition.number) refl (own_set l edition) lt

others_set_by : (own : Bool) (first edition : Edition) (l : List Edition) (place other : ℕ) → (first.number == edition.number) ≡ own → other ≢ edition.number
    → learnt_at (set l place edition) other ≡ learnt_at l other → learnt_at (set (first ∷ l) (if own then 0 else suc place) edition) other ≡ learnt_at (first ∷ l) other
others_set_by true first edition l place other is differs later =
    behind_first l edition other differs
    ∙ sym (behind_first l first other (λ e. differs (e ∙ eqb-true first.number edition.number is)))
others_set_by false first edition l place other is differs later = ap (λ o. if first.number == other then Some first.sheets else o) later

-- those of other numbers stay
pub others_set : (l : List Edition) (edition : Edition) (other : ℕ) → other ≢ edition.number → learnt_at (set l (place_in l edition.number) edition) other ≡ learnt_at l other
others_set [] edition other differs = refl
others_set (first ∷ l) edition other differs =
    others_set_by (first.number == edition.number) first edition l (place_in l edition.number) other refl differs (others_set l edition other differs)

own_push_by : (own : Bool) (first edition : Edition) (l : List Edition) (place : ℕ) → (first.number == edition.number) ≡ own
    → (length l ≤ place → learnt_at (l ++ edition ∷ []) edition.number ≡ Some edition.sheets)
    → suc (length l) ≤ (if own then 0 else suc place) → learnt_at (first ∷ (l ++ edition ∷ [])) edition.number ≡ Some edition.sheets
own_push_by true first edition l place is later le = absurd (omega (arith, le))
own_push_by false first edition l place is later le =
    cond-false (first.number == edition.number) (Some first.sheets) (learnt_at (l ++ edition ∷ []) edition.number) is
    ∙ later (omega (arith, le))

-- one that comes behind all others, of which none has its number, has its sheets
pub own_push : (l : List Edition) (edition : Edition) → length l ≤ place_in l edition.number → learnt_at (l ++ edition ∷ []) edition.number ≡ Some edition.sheets
own_push [] edition le = own_first [] edition
own_push (first ∷ l) edition le =
    own_push_by (first.number == edition.number) first edition l (place_in l edition.number) refl (own_push l edition) le

-- and those of other numbers stay
pub others_push : (l : List Edition) (edition : Edition) (other : ℕ) → other ≢ edition.number → learnt_at (l ++ edition ∷ []) other ≡ learnt_at l other
others_push [] edition other differs = behind_first [] edition other differs
others_push (first ∷ l) edition other differs =
    ap (λ o. if first.number == other then Some first.sheets else o) (others_push l edition other differs)
