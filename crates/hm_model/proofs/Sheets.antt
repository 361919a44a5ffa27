-- What sheets say at an input.
use Rattle.std.proofs.Common.{List, ap, ◌≡◌}
use Rattle.hm_data.specs.declared.sheet.Sheet.{Sheet}
use Rattle.hm_data.specs.declared.step.StepIn.{StepIn}
use Rattle.hm_model.specs.Evaluation.{answer_by, answer_of}
use Rattle.hm_model.specs.Sheets.{sheet_for}

-- where their sheets for its kind are the same, so is what they say
pub said_alike : (one other : List Sheet) (at : StepIn) → sheet_for one at.kind ≡ sheet_for other at.kind → answer_of one at ≡ answer_of other at
said_alike one other at same = ap (λ o. answer_by o at) same
