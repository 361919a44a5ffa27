-- Edits: where they stand, and which of them come to the same.
use Rattle.std.proofs.Common.{◌≡◌, List, [], ◌∷◌, ◌++◌, true, false, cond, Option, refl, ap, sym, ◌∙◌, inl, inr}
use Rattle.std.proofs.lemmas.Bool.{cond-false, true≢false}
use Rattle.hm_data.specs.declared.args.Args.{Args}
use Rattle.hm_data.specs.declared.catalog.CatKey.{CatKey}
use Rattle.hm_data.specs.declared.catalog.CatRow.{CatRow}
use Rattle.hm_data.specs.declared.catalog.Edit.{Edit}
use Rattle.hm_model.specs.Catalog.{edited}
use Rattle.hm_model.specs.Keys.{same_key}
use Rattle.hm_model.specs.Reads.{covers}
use Rattle.hm_model.proofs.KeyTests.{cases_key}
pub use Rattle.hm_model.proofs.LeadsBack.{edited-append}

-- a procedure's exclusive asks cover each edit
abbrev pub Within : Args → List Edit → Type 0
Within args [] = Unit {0}
Within args (edit ∷ edits) = (covers args edit.key ≡ true) × Within args edits

pub within_others : (args : Args) (edits : List Edit) → Within args edits → (key : CatKey) → covers args key ≡ false → (row : Option CatRow) → edited edits key row ≡ row
within_others args [] within key off row = refl
within_others args (edit ∷ edits) within key off row = elim (cases_key key edit.key) [
  | inl same ↦ absurd (true≢false (sym within.0 ∙ ap (covers args) (sym same.1) ∙ off))
  | inr differs ↦ ap (edited edits key) (cond-false (same_key key edit.key) edit.after row differs.0) ∙ within_others args edits within.1 key off row
]

pub within_append : (args : Args) (xs ys : List Edit) → Within args xs → Within args ys → Within args (xs ++ ys)
within_append args [] ys one two = two
within_append args (x ∷ xs) ys one two = (one.0, within_append args xs ys one.1 two)

-- edits that set the same keys to the same rows
abbrev pub Alike : List Edit → List Edit → Type 0
Alike [] [] = Unit {0}
Alike [] (y ∷ ys) = ⊥
Alike (x ∷ xs) [] = ⊥
Alike (x ∷ xs) (y ∷ ys) = (x.key ≡ y.key) × (x.after ≡ y.after) × Alike xs ys

pub alike_edited : (xs ys : List Edit) → Alike xs ys → (key : CatKey) (row : Option CatRow) → edited xs key row ≡ edited ys key row
alike_edited [] [] alike key row = refl
alike_edited [] (y ∷ ys) alike key row = absurd alike
alike_edited (x ∷ xs) [] alike key row = absurd alike
alike_edited (x ∷ xs) (y ∷ ys) alike key row =
    ap (λ k. edited xs key (cond (same_key key k) x.after row)) alike.0 ∙ ap (λ o. edited xs key (cond (same_key key y.key) o row)) alike.1
    ∙ alike_edited xs ys alike.2 key (cond (same_key key y.key) y.after row)

pub alike_append : (xs ys us vs : List Edit) → Alike xs ys → Alike us vs → Alike (xs ++ us) (ys ++ vs)
alike_append [] [] us vs one two = two
alike_append [] (y ∷ ys) us vs one two = absurd one
alike_append (x ∷ xs) [] us vs one two = absurd one
alike_append (x ∷ xs) (y ∷ ys) us vs one two = (one.0, one.1, alike_append xs ys us vs one.2 two)
