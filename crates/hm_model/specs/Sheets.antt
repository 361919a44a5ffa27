-- The sheets of a journal and of its roots, and the row that a procedure runs next.
use Rattle.std.specs.Prelude.{ℕ, ◌+◌, List, [], ◌∷◌, Option, Some, None, ◌==◌, if◌then◌else◌, nat_lt, slice_get}
use Rattle.hm_data.specs.declared.act.Back.{Back}
use Rattle.hm_data.specs.declared.act.Back.TheVariants as back_is
use Rattle.hm_data.specs.declared.entry.Entry.TheVariants as entry_is
use Rattle.hm_data.specs.declared.sheet.Row.{Row}
use Rattle.hm_data.specs.declared.sheet.Sheet.{Sheet}
use Rattle.hm_model.specs.Journal.{Past}
use Rattle.hm_model.specs.Kinds.{kind_of}
use Rattle.hm_model.specs.Tree.{Node, made}
use Rattle.hm_model.specs.Answers.{row_of}
use Rattle.hm_model.specs.Parts.{part_sheets}

-- the sheets in force
abbrev pub sheets_of : Past → List Sheet
sheets_of [] = []
sheets_of (entry_is.Start sheets ∷ before) = sheets
sheets_of (entry_is.Adopt sheets ∷ before) = sheets
sheets_of (entry_is.Base part ∷ before) = part_sheets part (sheets_of before)
sheets_of (entry ∷ before) = sheets_of before

-- the sheets that were in force when a root was made; the roots of a base have ended, and need none
abbrev pub sheets_by : Past → ℕ → List Sheet
sheets_by [] root = []
sheets_by (entry_is.Submit nonce request ∷ before) root =
    if root == made before + 1 then sheets_of before else sheets_by before root
sheets_by (entry_is.Undo pid row out ∷ before) root = if nat_lt (made before) root then sheets_of before else sheets_by before root
sheets_by (entry_is.Down server ∷ before) root = if root == made before + 1 then sheets_of before else sheets_by before root
sheets_by (entry_is.Base part ∷ before) root = []
sheets_by (entry ∷ before) root = sheets_by before root

-- the sheet of a kind: the first
abbrev pub sheet_for : List Sheet → ℕ → Option Sheet
sheet_for [] kind = None
sheet_for (sheet ∷ sheets) kind = if sheet.kind == kind then Some sheet else sheet_for sheets kind

-- the row of a sheet at a place
abbrev pub row_in : Option Sheet → ℕ → Option Row
row_in None place = None
row_in (Some sheet) place = slice_get sheet.rows place

-- the row that a procedure runs next
abbrev pub next_row : Past → ℕ → Node → Option Row
next_row before p node = row_in (sheet_for (sheets_by before node.root) (kind_of node.args)) (row_of before p node)

-- how a row is undone
abbrev pub undo_by : Option Row → Back
undo_by None = back_is.Nothing
undo_by (Some row) = row.undo

-- how the next step of a procedure is undone
abbrev pub undo_of_next : Past → ℕ → Option Node → Back
undo_of_next before p None = back_is.Nothing
undo_of_next before p (Some node) = undo_by (next_row before p node)
