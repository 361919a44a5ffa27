-- The sheets that a registry has for an edition, as a hall asks for them.
use Rattle.std.proofs.Common.{◌≡◌, List, [], Option, Some, None}
use Rattle.std.specs.Prelude.{unwrap_or}
use Rattle.hm_data.specs.declared.sheet.Sheet.{Sheet}
use Rattle.hm_data.specs.declared.step.StepIn.{StepIn}
use Rattle.hm_data.specs.declared.step.StepOut.{StepOut}
use Rattle.hm_model.specs.Evaluation.{CanRun, answer_of}
use Rattle.hm_sheet.specs.Learnt.{CanRunIn, answer_in}

-- what can be asked of them, or of none, can be asked of them where they are there
pub asked_there : (sheets : Option (List Sheet)) (at : StepIn) → CanRun (unwrap_or sheets []) at → CanRunIn sheets at
asked_there None at can = can
asked_there (Some sheets) at can = can

-- and what they answer there is their answer
pub answered_there : (sheets : Option (List Sheet)) (at : StepIn) (out : StepOut) → answer_in sheets at ≡ Some out → answer_of (unwrap_or sheets []) at ≡ Some out
answered_there None at out is = is
answered_there (Some sheets) at out is = is
