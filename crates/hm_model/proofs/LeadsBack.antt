-- Edits and after them these turned round leave all as it was.
use Rattle.std.proofs.Common.{◌≡◌, List, [], ◌∷◌, ◌++◌, cond, Option, refl, ap, sym, ◌∙◌, inl, inr}
use Rattle.std.proofs.lemmas.Bool.{cond-true, cond-false}
use Rattle.hm_data.specs.declared.catalog.CatKey.{CatKey}
use Rattle.hm_data.specs.declared.catalog.CatRow.{CatRow}
use Rattle.hm_data.specs.declared.catalog.Edit.{Edit}
use Rattle.hm_model.specs.Catalog.{Catalog, edited}
use Rattle.hm_model.specs.GoingBack.{Tells}
use Rattle.hm_model.specs.Keys.{same_key}
use Rattle.hm_model.specs.Undoing.{turned, turned_round}
use Rattle.hm_model.proofs.KeyTests.{cases_key}

pub edited-append : (xs ys : List Edit) (key : CatKey) (row : Option CatRow) → edited (xs ++ ys) key row ≡ edited ys key (edited xs key row)
edited-append [] ys key row = refl
edited-append (x ∷ xs) ys key row = edited-append xs ys key (cond (same_key key x.key) x.after row)

-- the last turned edit gives back what its key had
turns : (key : CatKey) (edit : Edit) (now : Catalog) (row : Option CatRow) → edit.before ≡ now edit.key → row ≡ cond (same_key key edit.key) edit.after (now key) → cond (same_key key edit.key) edit.before row ≡ now key
turns key edit now row told is = elim (cases_key key edit.key) [
  | inl same ↦ cond-true (same_key key edit.key) edit.before row same.0 ∙ told ∙ ap now (sym same.1)
  | inr differs ↦ cond-false (same_key key edit.key) edit.before row differs.0 ∙ is ∙ cond-false (same_key key edit.key) edit.after (now key) differs.0
]

-- undoing edits that tell what was there leads back
pub undo_leads_back : (edits : List Edit) (now : Catalog) (key : CatKey) → Tells edits now → edited (turned_round edits) key (edited edits key (now key)) ≡ now key
undo_leads_back [] now key told = refl
undo_leads_back (edit ∷ edits) now key told =
    let later = undo_leads_back edits (λ k. cond (same_key k edit.key) edit.after (now k)) key told.1 in
    edited-append (turned_round edits) (turned edit ∷ []) key _ ∙ turns key edit now _ told.0 later
