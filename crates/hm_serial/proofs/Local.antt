-- Edits: where they stand, what they tell, and what undoing them leaves.
use Rattle.std.proofs.Common.{◌≡◌, List, [], ◌∷◌, ◌++◌, cond, refl, ap, sym, ◌∙◌, inl, inr}
use Rattle.std.proofs.lemmas.Bool.{cond-true}
use Rattle.hm_data.specs.declared.args.Args.{Args}
use Rattle.hm_data.specs.declared.catalog.CatKey.{CatKey}
use Rattle.hm_data.specs.declared.catalog.Edit.{Edit}
use Rattle.hm_model.specs.Catalog.{Catalog, edited}
use Rattle.hm_model.specs.Keys.{same_key}
use Rattle.hm_model.specs.Undoing.{turned, turned_round}
use Rattle.hm_model.proofs.KeyTests.{cases_key}
use Rattle.hm_model.specs.GoingBack.{Tells}
pub use Rattle.hm_model.proofs.LeadsBack.{undo_leads_back}
pub use Rattle.hm_kinds.proofs.Within.{Within}
pub use Rattle.hm_kinds.proofs.Within.{within_others, edited-append, within_append}

pub within_undo : (args : Args) (edits : List Edit) → Within args edits → Within args (turned_round edits)
within_undo args [] within = tt
within_undo args (edit ∷ edits) within = within_append args (turned_round edits) (turned edit ∷ []) (within_undo args edits within.1) (within.0, tt)

-- what edits tell, they tell of a catalog with the same rows
pub tells_same : (edits : List Edit) (a b : Catalog) → ((key : CatKey) → a key ≡ b key) → Tells edits a → Tells edits b
tells_same [] a b same told = tt
tells_same (edit ∷ edits) a b same told = (told.0 ∙ same edit.key, tells_same edits _ _ (λ key. ap (cond (same_key key edit.key) edit.after) (same key)) told.1)

tells_append : (xs ys : List Edit) (now : Catalog) → Tells xs now → Tells ys (λ key. edited xs key (now key)) → Tells (xs ++ ys) now
tells_append [] ys now one two = two
tells_append (x ∷ xs) ys now one two = (one.0, tells_append xs ys (λ key. cond (same_key key x.key) x.after (now key)) one.1 two)

-- edits that are turned round tell what the edits left
pub tells_back : (edits : List Edit) (now : Catalog) → Tells edits now → Tells (turned_round edits) (λ key. edited edits key (now key))
tells_back [] now told = tt
tells_back (edit ∷ edits) now told =
    tells_append (turned_round edits) (turned edit ∷ []) _ (tells_back edits (λ k. cond (same_key k edit.key) edit.after (now k)) told.1)
    (sym (undo_leads_back edits (λ k. cond (same_key k edit.key) edit.after (now k)) edit.key told.1 ∙ here), tt)
  where
    here : cond (same_key edit.key edit.key) edit.after (now edit.key) ≡ edit.after
    here = elim (cases_key edit.key edit.key) [
      | inl same ↦ cond-true (same_key edit.key edit.key) edit.after (now edit.key) same.0
      | inr differs ↦ absurd (differs.1 refl)
    ]
