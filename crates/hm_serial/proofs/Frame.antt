-- The undoing of steps: what it leaves, and what a step that is pushed adds to it.
use Rattle.std.proofs.Common.{◌≡◌, ℕ, List, [], ◌∷◌, Bool, true, false, Option, refl, ap, inl, inr, ◌⊎◌}
use Rattle.std.proofs.lemmas.Bool.{or_left}
use Rattle.hm_data.specs.declared.act.Back.{Back}
use Rattle.hm_data.specs.declared.act.Back.TheVariants as back_is
use Rattle.hm_data.specs.declared.args.Args.{Args}
use Rattle.hm_data.specs.declared.catalog.CatKey.{CatKey}
use Rattle.hm_data.specs.declared.catalog.CatRow.{CatRow}
use Rattle.hm_data.specs.declared.catalog.Edit.{Edit}
use Rattle.hm_model.specs.Catalog.{Catalog, edited}
use Rattle.hm_model.specs.Reads.{covers, guards, reads}
use Rattle.hm_model.specs.Undoing.{undo_edits}
use Rattle.hm_model.specs.Undo.{Undoable, pushed}
use Rattle.hm_serial.proofs.Local.{Within, undo_leads_back, within_undo}
use Rattle.hm_model.specs.GoingBack.{Tells}

-- the row of a key after the undoing of steps, the latest first
abbrev pub unwound : List Undoable → CatKey → Option CatRow → Option CatRow
unwound [] key row = row
unwound (latest ∷ below) key row = unwound below key (edited (undo_edits latest.undo latest.edits) key row)

-- a procedure's exclusive asks cover all that undoing edits
abbrev pub AllWithin : Args → List Undoable → Type 0
AllWithin args [] = Unit {0}
AllWithin args (latest ∷ below) = Within args (undo_edits latest.undo latest.edits) × AllWithin args below

pub cover_guards : (args : Args) (key : CatKey) → covers args key ≡ true → guards args key ≡ true
cover_guards args key h = or_left (covers args key) (reads args key) h

-- a step that is pushed unwinds to where it began
pub push_back : (undo : Back) (failed : Bool) (p row : ℕ) (edits : List Edit) (below : List Undoable) (there : Catalog) (key : CatKey) → (edits ≡ []) ⊎ (undo ≡ back_is.Edits) → (failed ≡ true → edits ≡ []) → Tells edits there → unwound (pushed undo failed p row edits below) key (edited edits key (there key)) ≡ unwound below key (there key)
push_back back_is.Nothing failed p row edits below there key kept clean told = elim kept [ inl none ↦ rw none refl | inr by ↦ cc ]
push_back back_is.Edits true p row edits below there key kept clean told = rw (clean refl) refl
push_back back_is.Edits false p row edits below there key kept clean told = ap (unwound below key) (undo_leads_back edits there key told)
push_back back_is.Sweep true p row edits below there key kept clean told = rw (clean refl) refl
push_back back_is.Sweep false p row edits below there key kept clean told = elim kept [ inl none ↦ rw none refl | inr by ↦ cc ]
push_back back_is.Reopen true p row edits below there key kept clean told = rw (clean refl) refl
push_back back_is.Reopen false p row edits below there key kept clean told = elim kept [ inl none ↦ rw none refl | inr by ↦ cc ]

pub push_within : (args : Args) (undo : Back) (failed : Bool) (p row : ℕ) (edits : List Edit) (below : List Undoable) → Within args edits → AllWithin args below → AllWithin args (pushed undo failed p row edits below)
push_within args back_is.Nothing failed p row edits below one more = more
push_within args back_is.Edits true p row edits below one more = more
push_within args back_is.Edits false p row edits below one more = (within_undo args edits one, more)
push_within args back_is.Sweep true p row edits below one more = more
push_within args back_is.Sweep false p row edits below one more = (tt, more)
push_within args back_is.Reopen true p row edits below one more = more
push_within args back_is.Reopen false p row edits below one more = (tt, more)
