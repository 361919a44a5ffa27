-- The sheets of editions that a registry learnt, and what those of an edition answer.
use Rattle.std.specs.Prelude.{ℕ, suc, List, [], ◌∷◌, Option, Some, None, ◌==◌, if◌then◌else◌}
use Rattle.hm_data.specs.declared.sheet.Sheet.{Sheet}
use Rattle.hm_data.specs.declared.step.StepIn.{StepIn}
use Rattle.hm_data.specs.declared.step.StepOut.{StepOut}
use Rattle.hm_model.specs.Evaluation.{CanBeAsked, answer_by}
use Rattle.hm_model.specs.Sheets.{sheet_for}
use Rattle.hm_sheet.specs.declared.learnt.Edition.{Edition}

-- how many editions stand before the first of this number
abbrev pub place_in : List Edition → ℕ → ℕ
place_in [] number = 0
place_in (edition ∷ editions) number = if edition.number == number then 0 else suc (place_in editions number)

-- the sheets of the first edition of this number
abbrev pub learnt_at : List Edition → ℕ → Option (List Sheet)
learnt_at [] number = None
learnt_at (edition ∷ editions) number = if edition.number == number then Some edition.sheets else learnt_at editions number

-- the sheets that were learnt for an edition; where none were, it has those that it began with for edition 0
abbrev pub or_begun : Option (List Sheet) → List Sheet → ℕ → Option (List Sheet)
or_begun None begun edition = if edition == 0 then Some begun else None
or_begun (Some sheets) begun edition = Some sheets

-- the sheet of a kind, if the sheets are there
abbrev pub sheet_in : Option (List Sheet) → ℕ → Option Sheet
sheet_in None kind = None
sheet_in (Some sheets) kind = sheet_for sheets kind

-- the sheets are there, and have one for the input's kind, which can be asked there
abbrev pub CanRunIn : Option (List Sheet) → StepIn → Type 0
CanRunIn sheets at = CanBeAsked (sheet_in sheets at.kind) at

-- what the sheet of the input's kind answers, if the sheets are there
abbrev pub answer_in : Option (List Sheet) → StepIn → Option StepOut
answer_in sheets at = answer_by (sheet_in sheets at.kind) at
