-- Undoing step after step, the latest first, tells at each what it finds.
use Rattle.std.proofs.Common.{◌≡◌, ℕ, List, [], ◌∷◌, Bool, true, false, refl, ap, sym, subst, inl, inr, ◌⊎◌}
use Rattle.hm_data.specs.declared.act.Back.{Back}
use Rattle.hm_data.specs.declared.act.Back.TheVariants as back_is
use Rattle.hm_data.specs.declared.catalog.CatKey.{CatKey}
use Rattle.hm_data.specs.declared.catalog.Edit.{Edit}
use Rattle.hm_model.specs.Catalog.{Catalog, edited}
use Rattle.hm_model.specs.Undo.{Undoable, pushed}
use Rattle.hm_model.specs.Undoing.{undo_edits}
use Rattle.hm_model.specs.GoingBack.{Tells}
use Rattle.hm_serial.proofs.Local.{tells_back, tells_same, undo_leads_back}

abbrev pub AllTell : List Undoable → Catalog → Type 0
AllTell [] now = Unit {0}
AllTell (latest ∷ below) now = Tells (undo_edits latest.undo latest.edits) now × AllTell below (λ key. edited (undo_edits latest.undo latest.edits) key (now key))

all_same : (steps : List Undoable) (a b : Catalog) → ((key : CatKey) → a key ≡ b key) → AllTell steps a → AllTell steps b
all_same [] a b same all = tt
all_same (latest ∷ below) a b same all = (tells_same (undo_edits latest.undo latest.edits) a b same all.0, all_same below _ _ (λ key. ap (edited (undo_edits latest.undo latest.edits) key) (same key)) all.1)

unedited : (edits : List Edit) (below : List Undoable) (there : Catalog) → edits ≡ [] → AllTell below there → AllTell below (λ key. edited edits key (there key))
unedited edits below there none all = subst (λ e. AllTell below (λ key. edited e key (there key))) (sym none) all

pub push_tells : (undo : Back) (failed : Bool) (p row : ℕ) (edits : List Edit) (below : List Undoable) (there : Catalog) → (edits ≡ []) ⊎ (undo ≡ back_is.Edits) → (failed ≡ true → edits ≡ []) → Tells edits there → AllTell below there → AllTell (pushed undo failed p row edits below) (λ key. edited edits key (there key))
push_tells back_is.Nothing failed p row edits below there kept clean told all = elim kept [ inl none ↦ unedited edits below there none all | inr by ↦ cc ]
push_tells back_is.Edits true p row edits below there kept clean told all = unedited edits below there (clean refl) all
push_tells back_is.Edits false p row edits below there kept clean told all = (tells_back edits there told, all_same below there _ (λ key. sym (undo_leads_back edits there key told)) all)
push_tells back_is.Sweep true p row edits below there kept clean told all = unedited edits below there (clean refl) all
push_tells back_is.Sweep false p row edits below there kept clean told all = elim kept [ inl none ↦ (tt, unedited edits below there none all) | inr by ↦ cc ]
push_tells back_is.Reopen true p row edits below there kept clean told all = unedited edits below there (clean refl) all
push_tells back_is.Reopen false p row edits below there kept clean told all = elim kept [ inl none ↦ (tt, unedited edits below there none all) | inr by ↦ cc ]
