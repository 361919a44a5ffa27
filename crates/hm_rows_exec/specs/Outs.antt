-- What is claimed, and what a call of the executor leaves of it.
use Rattle.std.specs.Prelude.{◌≡◌, ◌≢◌, ℕ, List, Option, Some, None, All}
use Rattle.hm_names.specs.declared.pid.Pid.{Pid}
use Rattle.hm_data.specs.declared.sheet.Sheet.{Sheet}
use Rattle.hm_data.specs.declared.step.StepIn.{StepIn}
use Rattle.hm_data.specs.declared.step.StepOut.{StepOut}
use Rattle.hm_hall.specs.Recording.{Recording}
use Rattle.hm_exec.specs.Claiming.{IsAnswer}
use Rattle.hm_exec.specs.Moment.{Moment, past_of}
use Rattle.hm_exec.specs.View.{ExecView}
use Rattle.hm_model.specs.Editions.{sheets_in}
use Rattle.hm_model.specs.Locks.{IsIn}

-- the sheets of each edition of the journal
abbrev pub sheets_at : Moment → ℕ → List Sheet
sheets_at at = sheets_in (past_of at)

-- what an executor over a list keeps, and who is claimed
abbrev pub at_exec : ExecView Recording → Moment
at_exec exec = record { kept = exec.recorder; claimed = exec.claimed }

-- a procedure is claimed, and its handler answers this to what was handed out for it
abbrev pub IsOut : Moment → Pid × StepIn × StepOut → Type 0
IsOut at (pid, was, out) = IsIn pid.0 at.claimed × IsAnswer (past_of at) was out

abbrev pub AreOut : Moment → List (Pid × StepIn × StepOut) → Type 0
AreOut at outs = All (IsOut at) outs

-- they are of other procedures than this
abbrev pub AreOthers : Pid → List (Pid × StepIn × StepOut) → Type 0
AreOthers pid outs = All (λ out. let one = out.0 in one.0 ≢ pid.0) outs

-- one is taken from them
abbrev pub IsTaken : List (Pid × StepIn × StepOut) → Pid × StepIn × StepOut → List (Pid × StepIn × StepOut) → Type 0
IsTaken old out new = (at : Moment) → AreOut at old → IsOut at out × AreOut at new

-- the others are claimed still, where one is taken from them, and none is of its procedure
abbrev pub AreLeft : List (Pid × StepIn × StepOut) → Option (Pid × StepIn × StepOut) → List (Pid × StepIn × StepOut) → Type 0
AreLeft old None new = (at : Moment) → AreOut at old → AreOut at new
AreLeft old (Some out) new = IsTaken old out new × AreOthers out.0 new

-- an executor, and what is claimed
pub record RunView : Type 0 where
  pub exec : ExecView Recording
  pub outs : List (Pid × StepIn × StepOut)

-- the same are claimed, and each edition has the same sheets
abbrev pub StayOut : Moment → Moment → Type 0
StayOut old new = (new.claimed ≡ old.claimed) × (sheets_at new ≡ sheets_at old)
