-- Copies of the sheets of some kinds.
use Rattle.std.proofs.Common.{◌≡◌, ℕ, zero, suc, ◌+◌, ◌<◌, ◌≤◌, List, [], ◌∷◌, ◌++◌, drop, take, length, get_or, Option, Some, IsSome, IsTrue, refl, ap, ◌∙◌, sym, subst, arith, Bool, true, false, ◌&&◌, None, is_none, if◌then◌else◌}
use Rattle.std.specs.List.{AllByRecursion}
use Rattle.std.proofs.lemmas.Bool.{false≢true}
use Rattle.std.proofs.lemmas.List.{take_more, take_all, map-append}
use Rattle.std.specs.Bool.{◌==◌}
use Rattle.std.proofs.lemmas.Bool.Decides.{nat_tests}
use Rattle.hm_data.specs.declared.sheet.Sheet.{Sheet}
use Rattle.hm_model.specs.Sheets.{sheet_for}
use Rattle.hm_model.specs.Validity.{IsValid, AllValid}
use Rattle.hm_sheet.specs.Own.{is_kind}
use Rattle.hm_sheet.specs.Words.{AreSheetsOf}

found_by : (own : Bool) (first sheet : Sheet) (rest : Option Sheet) (kind : ℕ) → (own ≡ true → first.kind ≡ kind) → (rest ≡ Some sheet → sheet.kind ≡ kind) → (if own then Some first else rest) ≡ Some sheet → sheet.kind ≡ kind
found_by true first sheet rest kind own later is =
    let same : first ≡ sheet = cc in ap (λ (s : Sheet). s.kind) (sym same) ∙ own refl
found_by false first sheet rest kind own later is = later is

kind_of_found : (all : List Sheet) (kind : ℕ) (sheet : Sheet) → sheet_for all kind ≡ Some sheet → sheet.kind ≡ kind
kind_of_found [] kind sheet is = absurd (cc)
kind_of_found (first ∷ all) kind sheet is =
    found_by (first.kind == kind) first sheet (sheet_for all kind) kind (λ own. grind (arith, nat_tests)) (kind_of_found all kind sheet) is

-- valid sheets, with one more
pub all_valid-push : (sheets : List Sheet) (sheet : Sheet) → AllValid sheets → IsValid sheet → AllValid (sheets ++ sheet ∷ [])
all_valid-push [] sheet valid one = (one, tt)
all_valid-push (first ∷ sheets) sheet valid one = (valid.0, all_valid-push sheets sheet valid.1 one)

-- one more
pub copies-push : (all sheets : List Sheet) (kinds : List ℕ) (i : ℕ) (sheet : Sheet) → i < length kinds → AreSheetsOf (take i kinds) all sheets → sheet_for all (get_or kinds i 0) ≡ Some sheet → IsValid sheet → AreSheetsOf (take (i + 1) kinds) all (sheets ++ sheet ∷ [])
copies-push all sheets kinds i sheet lt so_far is one =
    let more : take (i + 1) kinds ≡ take i kinds ++ get_or kinds i 0 ∷ [] = take_more kinds i 0 lt in
    record {
      found = rw (more, map-append, map-append) (cc (so_far.found, is));
      valid = (rw (more, map-append) (cc (so_far.valid.0, kind_of_found all (get_or kinds i 0) sheet is)), all_valid-push sheets sheet so_far.valid.1 one);
    }

-- all of them
pub copies-all : (all sheets : List Sheet) (kinds : List ℕ) (index : ℕ) → length kinds ≤ index → AreSheetsOf (take index kinds) all sheets → AreSheetsOf kinds all sheets
copies-all all sheets kinds index over copies = subst (λ ks. AreSheetsOf ks all sheets) (take_all index kinds over) copies

-- what holds of the rest holds of its first, and of what comes after
pub holds_next : (P : ℕ → Type 0) (numbers : List ℕ) (i : ℕ) → i < length numbers → AllByRecursion P (drop i numbers) → P (get_or numbers i 0) × AllByRecursion P (drop (i + 1) numbers)
holds_next P [] i lt all = absurd (omega (arith, lt))
holds_next P (first ∷ numbers) zero lt all = all
holds_next P (first ∷ numbers) (suc i) lt all =
    let same : suc i + 1 ≡ suc (i + 1) = omega arith in rw same (holds_next P numbers i (omega (arith, lt)) all)

some_of : (kinds missing : Bool) (sheet : Option Sheet) → missing ≡ is_none sheet → (kinds && missing) ≡ false → IsTrue kinds → IsSome sheet
some_of true missing None same none is = absurd (false≢true (sym none ∙ same))
some_of true missing (Some sheet) same none is = cc
some_of false missing sheet same none is = absurd (false≢true is)

-- where no lower kind is missing, and this one isn't, none up to it is
pub kinds_below : (sheets : List Sheet) (kind : ℕ) → ((lower : ℕ) → lower < kind → IsTrue (is_kind lower) → IsSome (sheet_for sheets lower)) → (is_kind kind && is_none (sheet_for sheets kind)) ≡ false
    → (lower : ℕ) → lower < kind + 1 → IsTrue (is_kind lower) → IsSome (sheet_for sheets lower)
kinds_below sheets kind below this lower less is = by (lower == kind) refl
  where
    by : (same : Bool) → (lower == kind) ≡ same → IsSome (sheet_for sheets lower)
    by true test =
        let same : lower ≡ kind = grind (arith, nat_tests) in
        subst (λ k. IsSome (sheet_for sheets k)) (sym same) (some_of (is_kind kind) (is_none (sheet_for sheets kind)) (sheet_for sheets kind) refl this (subst (λ k. IsTrue (is_kind k)) same is))
    by false test = below lower (grind (arith, nat_tests)) is
