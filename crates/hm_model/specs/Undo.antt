-- The steps of a tree that may still be undone.
use Rattle.std.specs.Prelude.{ℕ, List, [], ◌∷◌, Option, Some, None, Bool, true, false, ◌==◌, if◌then◌else◌, is_some}
use Rattle.hm_data.specs.declared.act.Back.{Back}
use Rattle.hm_data.specs.declared.act.Back.TheVariants as back_is
use Rattle.hm_data.specs.declared.catalog.Edit.{Edit}
use Rattle.hm_data.specs.declared.entry.Entry.TheVariants as entry_is
use Rattle.hm_model.specs.Journal.{Past}
use Rattle.hm_model.specs.Tree.{Node, node_of, root_of}
use Rattle.hm_model.specs.Answers.{row_of, failing}
use Rattle.hm_model.specs.Sheets.{undo_of_next}

-- a step that may be undone: whose it is, its row, how, and its edits
pub record Undoable : Type 0 where
  pub pid : ℕ
  pub row : ℕ
  pub undo : Back
  pub edits : List Edit

-- a step that failed leaves nothing to undo
abbrev pub unless_failed : Bool → Undoable → List Undoable → List Undoable
unless_failed true step below = below
unless_failed false step below = step ∷ below

-- what can be undone after a step: the step too, unless its row has no undo or it failed
abbrev pub pushed : Back → Bool → ℕ → ℕ → List Edit → List Undoable → List Undoable
pushed back_is.Nothing failed p row edits below = below
pushed other failed p row edits below =
    unless_failed failed (record { pid = p; row = row; undo = other; edits = edits }) below

-- the row that a procedure, if there is one, runs next
abbrev pub row_if_there : Past → ℕ → Option Node → ℕ
row_if_there before p None = 0
row_if_there before p (Some node) = row_of before p node

-- without the latest
abbrev pub rest_of : List Undoable → List Undoable
rest_of [] = []
rest_of (latest ∷ below) = below

-- the steps of a root's tree that have an undo and aren't yet undone, the latest first
abbrev pub stack : Past → ℕ → List Undoable
stack [] r = []
stack (entry_is.Step pid pick out ∷ before) r =
    if root_of before pid.0 == r then pushed (undo_of_next before pid.0 (node_of before pid.0)) (is_some (failing out.answer)) pid.0 (row_if_there before pid.0 (node_of before pid.0)) out.edits (stack before r) else stack before r
stack (entry_is.Undo pid row out ∷ before) r =
    if root_of before pid.0 == r then rest_of (stack before r) else stack before r
stack (entry_is.Base part ∷ before) r = []
stack (entry ∷ before) r = stack before r

-- nothing is left to undo
abbrev pub is_empty : List Undoable → Bool
is_empty [] = true
is_empty (latest ∷ below) = false
