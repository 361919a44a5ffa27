-- Which sheet and row an answer is of.
use Rattle.std.proofs.Common.{◌≡◌, Option, Some, None, refl, sym, slice_get}
use Rattle.std.proofs.lemmas.Option.{none-some, same_Some}
use Rattle.hm_data.specs.declared.sheet.Row.{Row}
use Rattle.hm_data.specs.declared.sheet.Sheet.{Sheet}
use Rattle.hm_data.specs.declared.step.StepIn.{StepIn}
use Rattle.hm_data.specs.declared.step.StepOut.{StepOut}
use Rattle.hm_model.specs.Evaluation.{answer_at, answer_by, turn_answer}

said_at : (row : Option Row) (at : StepIn) (out : StepOut) → answer_at row at ≡ Some out → (r : Row) × (row ≡ Some r) × (out ≡ turn_answer r at at.turn)
said_at None at out is = absurd (none-some out is)
said_at (Some row) at out is = (row, refl, sym (same_Some (turn_answer row at at.turn) out is))

-- the sheet and the row that were asked
pub said_by : (sheet : Option Sheet) (at : StepIn) (out : StepOut) → answer_by sheet at ≡ Some out → (s : Sheet) × (sheet ≡ Some s) × (r : Row) × (slice_get s.rows at.row ≡ Some r) × (out ≡ turn_answer r at at.turn)
said_by None at out is = absurd (none-some out is)
said_by (Some sheet) at out is = let h = said_at (slice_get sheet.rows at.row) at out is in (sheet, refl, h.0, h.1, h.2)
