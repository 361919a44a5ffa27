-- How procedures are numbered, which sheet each has, and what is left to undo of a root.
use Rattle.std.specs.Prelude.{ℕ, ◌+◌, List, [], ◌∷◌, Option, Some, None, if◌then◌else◌}
use Rattle.hm_data.specs.declared.sheet.Sheet.{Sheet}
use Rattle.hm_data.specs.declared.step.StepIn.{StepIn}
use Rattle.hm_data.specs.declared.entry.Entry.TheVariants as entry_is
use Rattle.hm_model.specs.Journal.{Past}
use Rattle.hm_model.specs.Kinds.{kind_of}
use Rattle.hm_model.specs.Phase.{root_ended}
use Rattle.hm_model.specs.Sheets.{sheet_for, sheets_by}
use Rattle.hm_model.specs.Tree.{Node, made, node_of}
use Rattle.hm_model.specs.Undo.{Undoable, stack}

-- the number before that of the first procedure that an entry made
abbrev pub offset : Past → ℕ
offset [] = 0
offset (entry_is.Base part ∷ before) = made (entry_is.Base part ∷ before)
offset (entry ∷ before) = offset before

-- the number of the procedure at a place among those that were made, counted from 0
abbrev pub number_at : Past → ℕ → ℕ
number_at J place = offset J + place + 1

-- the sheet of a procedure: that of its kind, of those that were in force when its root was made
abbrev pub sheet_of : Past → ℕ → Node → Option Sheet
sheet_of before p node = sheet_for (sheets_by before node.root) (kind_of node.args)

-- the same of a procedure by its number
abbrev pub sheet_by : Past → ℕ → Option Sheet
sheet_by before p = elim (node_of before p) as (λ n. Option Sheet) [ None ↦ None | Some node ↦ sheet_of before p node ]

-- the sheet that is asked at an input: that of the procedure whose step it is, or whose step is undone
abbrev pub sheet_at : Past → StepIn → Option Sheet
sheet_at before at = sheet_by before (let pid = at.pid in pid.0)

-- the steps that are left to undo of an unfinished root, the latest first; one that has ended has none
abbrev pub left_to_undo : Past → ℕ → List Undoable
left_to_undo before r = if root_ended before r then [] else stack before r

-- the latest of the steps that can be undone
abbrev pub latest : List Undoable → Option Undoable
latest [] = None
latest (step ∷ below) = Some step
