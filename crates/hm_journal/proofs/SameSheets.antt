-- Sheets that are the same by kind.
use Rattle.std.proofs.Common.{◌≡◌, ℕ, ◌+◌, ◌<◌, ◌≤◌, ◌&&◌, Bool, true, nat_lt, nat_le, List, [], ◌∷◌, map, Some, refl, sym, ap, ◌∙◌, arith}
use Rattle.std.proofs.lemmas.Bool.{and_parts, eq-eqb, leb-true, ltb-true, ne_eqb}
use Rattle.std.proofs.lemmas.Option.{same_Some}
use Rattle.hm_data.specs.declared.sheet.Sheet.{Sheet}
use Rattle.hm_model.specs.Kinds.{all_kinds}
use Rattle.hm_model.specs.Base.{AreSheets}
use Rattle.hm_model.specs.Sheets.{sheet_for}
use Rattle.hm_journal.specs.Stored.{SameSheets}

-- kinds in their order, from this one on
abbrev AreRising : ℕ → List ℕ → Type 0
AreRising low [] = Unit {0}
AreRising low (kind ∷ kinds) = (low ≤ kind) × (kind < 256) × AreRising (kind + 1) kinds

-- the same, as a test
abbrev are_rising : ℕ → List ℕ → Bool
are_rising low [] = true
are_rising low (kind ∷ kinds) = nat_le low kind && (nat_lt kind 256 && are_rising (kind + 1) kinds)

rising : (kinds : List ℕ) (low : ℕ) → are_rising low kinds ≡ true → AreRising low kinds
rising [] low are = tt
rising (kind ∷ kinds) low are =
    let first = and_parts (nat_le low kind) (nat_lt kind 256 && are_rising (kind + 1) kinds) are in
    let second = and_parts (nat_lt kind 256) (are_rising (kind + 1) kinds) first.1 in
    (leb-true low kind first.0, ltb-true kind 256 second.0, rising kinds (kind + 1) second.1)

all_rise : AreRising 0 all_kinds
all_rise = rising all_kinds 0 refl

-- the first sheet, where it has the kind
first_kind : (sheet : Sheet) (sheets : List Sheet) (kind : ℕ) → sheet.kind ≡ kind → sheet_for (sheet ∷ sheets) kind ≡ Some sheet
first_kind sheet sheets kind is = rw (eq-eqb sheet.kind kind is) refl

-- one of the others, where it hasn't
other_kind : (sheet : Sheet) (sheets : List Sheet) (kind : ℕ) → (sheet.kind ≡ kind → ⊥) → sheet_for (sheet ∷ sheets) kind ≡ sheet_for sheets kind
other_kind sheet sheets kind differs = rw (ne_eqb sheet.kind kind differs) refl

same_from : (kinds : List ℕ) (low : ℕ) (xs ys : List Sheet) → AreRising low kinds → map (λ (s : Sheet). s.kind) xs ≡ kinds → map (λ (s : Sheet). s.kind) ys ≡ kinds
    → ((kind : ℕ) → low ≤ kind → kind < 256 → sheet_for xs kind ≡ sheet_for ys kind) → xs ≡ ys
same_from [] low [] [] rise are are' same = refl
same_from [] low [] (y ∷ ys) rise are are' same = absurd (cc)
same_from [] low (x ∷ xs) ys rise are are' same = absurd (cc)
same_from (kind ∷ kinds) low [] ys rise are are' same = absurd (cc)
same_from (kind ∷ kinds) low (x ∷ xs) [] rise are are' same = absurd (cc)
same_from (kind ∷ kinds) low (x ∷ xs) (y ∷ ys) rise are are' same =
    let here : x.kind ≡ kind = cc in
    let there : y.kind ≡ kind = cc in
    let first : x ≡ y = same_Some x y (sym (first_kind x xs kind here) ∙ same kind rise.0 rise.1 ∙ first_kind y ys kind there) in
    let more : map (λ (s : Sheet). s.kind) xs ≡ kinds = cc in
    let more' : map (λ (s : Sheet). s.kind) ys ≡ kinds = cc in
    let rest : xs ≡ ys = same_from kinds (kind + 1) xs ys rise.2 more more'
    (λ other le small. sym (other_kind x xs other (λ e. omega (arith, here, e, le))) ∙ same other (omega (arith, rise.0, le)) small ∙ other_kind y ys other (λ e. omega (arith, there, e, le))) in
    ap (λ (s : Sheet). s ∷ xs) first ∙ ap (λ (ss : List Sheet). y ∷ ss) rest

-- sheets that a journal may begin with are equal where they are the same by kind
pub same_sheets : (sheets own : List Sheet) → AreSheets sheets → AreSheets own → SameSheets sheets own → sheets ≡ own
same_sheets sheets own are are' same = same_from all_kinds 0 sheets own all_rise are.0 are'.0 (λ kind low small. same kind small)
