-- The first of some registries, and its sheets.
use Rattle.std.proofs.Common.{◌≡◌, ◌<◌, ◌||◌, ◌==◌, ℕ, List, [], ◌∷◌, ◌++◌, if◌then◌else◌, length, map, get_or, Option, Some, Bool, true, false, All, refl, sym, ap, ◌∙◌, subst, arith}
use Rattle.std.specs.Prelude.{IsTrue}
use Rattle.std.specs.List.{flat_map, list_any}
use Rattle.std.proofs.lemmas.Bool.Decides.{nat_tests}
use Rattle.std.proofs.lemmas.List.{length-map}
use Rattle.hm_data.specs.declared.sheet.Sheet.{Sheet}
use Rattle.hm_model.specs.Kinds.{all_kinds}
use Rattle.hm_model.specs.Sheets.{sheet_for}
use Rattle.hm_sheet.specs.Words.{AreWhole}
use Rattle.hm_commands.specs.Hands.{AgreeOn, HandsAgree, first_sheets, listed, own_sheets}
use Rattle.hm_commands.proofs.Agreeing.{first_is as begins}

module _ {R : Type 0} (f : R → List Sheet) (hands : List R) (agree : HandsAgree (map f hands)) where
  -- there is a first
  pub some_hands : 0 < length hands
  some_hands = let all : length (map f hands) ≡ length hands = length-map hands f in omega (arith, agree.seventeen)

  -- the first sheets are those of the first
  pub first_is : (x : R) → x ≡ get_or hands 0 x → first_sheets (map f hands) ≡ f x
  first_is x = begins f hands x (let some = some_hands in omega arith)

  -- what all are the first is
  pub all_first : (P : R → Type 0) (x : R) → x ≡ get_or hands 0 x → All P hands → P x
  all_first P x is all = subst P (sym is) (all 0 x some_hands)

-- sheets that are found under kinds are those that are listed
listed_are : (f : ℕ → Option Sheet) (kinds : List ℕ) (sheets : List Sheet) → map Some sheets ≡ map f kinds → flat_map (λ kind. listed (f kind)) kinds ≡ sheets
listed_are f [] [] found = refl
listed_are f [] (sheet ∷ sheets) found = absurd (cc)
listed_are f (kind ∷ kinds) [] found = absurd (cc)
listed_are f (kind ∷ kinds) (sheet ∷ sheets) found =
    let head : f kind ≡ Some sheet = cc in
    let rest : map Some sheets ≡ map f kinds = cc in
    ap (λ o. listed o ++ flat_map (λ k. listed (f k)) kinds) head ∙ ap (λ l. sheet ∷ l) (listed_are f kinds sheets rest)

by_test : (f : ℕ → Option Sheet) (first kind : ℕ) (sheet : Sheet) (rest : Option Sheet) (others is : Bool) → (first == kind) ≡ is → f first ≡ Some sheet → (IsTrue others → f kind ≡ rest)
    → IsTrue (is || others) → f kind ≡ (if is then Some sheet else rest)
by_test f first kind sheet rest others true test head more runs = let same : first ≡ kind = grind (arith, nat_tests) in ap f (sym same) ∙ head
by_test f first kind sheet rest others false test head more runs = more runs

-- a kind among those of some sheets has there the sheet that is found under it
found_same : (f : ℕ → Option Sheet) (kinds : List ℕ) (sheets : List Sheet) → map Some sheets ≡ map f kinds → map (λ sheet. sheet.kind) sheets ≡ kinds
    → (kind : ℕ) → IsTrue (list_any (λ k. k == kind) kinds) → f kind ≡ sheet_for sheets kind
found_same f [] [] found same kind runs = absurd (cc)
found_same f [] (sheet ∷ sheets) found same kind runs = absurd (cc)
found_same f (first ∷ kinds) [] found same kind runs = absurd (cc)
found_same f (first ∷ kinds) (sheet ∷ sheets) found same kind runs =
    let head : f first ≡ Some sheet = cc in
    let its : sheet.kind ≡ first = cc in
    let rest : map Some sheets ≡ map f kinds = cc in
    let more : map (λ sheet. sheet.kind) sheets ≡ kinds = cc in
    subst (λ k. f kind ≡ (if k == kind then Some sheet else sheet_for sheets kind)) (sym its)
    (by_test f first kind sheet (sheet_for sheets kind) (list_any (λ k. k == kind) kinds) (first == kind) refl head (found_same f kinds sheets rest more kind) runs)

-- the sheets that are found under the kinds are the own sheets
pub own_is : (first sheets : List Sheet) → map Some sheets ≡ map (λ kind. sheet_for first kind) all_kinds → own_sheets first ≡ sheets
own_is first sheets found = listed_are (sheet_for first) all_kinds sheets found

-- it lists its sheets of all kinds, and has them for edition 0
abbrev pub Lists : {R : Type 0} (f own : R → List Sheet) (has : R → ℕ → Option (List Sheet)) → R → Type 0
Lists f own has r = AreWhole (f r) (own r) × (has r 0 ≡ Some (own r))

-- so a run uses the sheets that the first registry lists
pub used_are : {R : Type 0} (f own : R → List Sheet) (has : R → ℕ → Option (List Sheet)) (hands : List R) → HandsAgree (map f hands) → All (Lists f own has) hands → (x : R) → x ≡ get_or hands 0 x → (slice : List Sheet) → slice ≡ own x
    → own_sheets (first_sheets (map f hands)) ≡ slice
used_are f own has hands agree each x is slice same =
    let list = (all_first f hands agree (Lists f own has) x is each).0 in
    ap own_sheets (first_is f hands agree x is) ∙ own_is (f x) (own x) list.found ∙ sym same

-- the handlers agree with the sheets that are listed
pub agree_own : (first sheets : List Sheet) → AreWhole first sheets → AgreeOn first sheets
agree_own first sheets list = found_same (sheet_for first) all_kinds sheets list.found list.valid.0
