-- The sheets of the kinds of procedures, as their handlers have them.
use Rattle.std.specs.Prelude.{ℕ, ◌+◌, List, [], ◌∷◌, ◌++◌, Bool}
use Rattle.hm_data.specs.declared.sheet.Row.{Row}
use Rattle.hm_data.specs.declared.sheet.Sheet.{Sheet}
use Rattle.hm_model.specs.Answers.{no_row}
use Rattle.hm_model.specs.Kinds.{all_kinds}
use Rattle.hm_model.specs.Lists.{Line, lines_of, exact_rows}
use Rattle.hm_model.specs.Validity.{is_among}

-- a line as a row that leads to another
abbrev pub row_to : Line → ℕ → Row
row_to line next = record { act = line.act; next = next; after = line.after; undo = line.undo }

-- lines as rows, each leading to the next one, whose number is told, and the last to the end
abbrev pub in_turn : ℕ → List Line → List Row
in_turn next [] = []
in_turn next (line ∷ []) = row_to line no_row ∷ []
in_turn next (line ∷ following ∷ lines) = row_to line next ∷ in_turn (next + 1) (following ∷ lines)

-- the sheet of a kind: the rows that it has, or those that it lists, in their order
abbrev pub own_sheet : ℕ → Sheet
own_sheet kind = record { kind = kind; rows = exact_rows kind ++ in_turn 1 (lines_of kind) }

-- a kind of procedures
abbrev pub is_kind : ℕ → Bool
is_kind kind = is_among all_kinds kind
