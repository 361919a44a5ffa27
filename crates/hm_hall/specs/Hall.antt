-- What is seen of a hall, and what its calls answer and leave.
use Rattle.std.specs.Prelude.{◌≡◌, ◌≢◌, ◌⊎◌, ◌↔◌, ℕ, List, [], ◌∷◌, ◌++◌, length, Bool, true, false, Option, Some, None, Result, Ok, Err}
use Rattle.hm_names.specs.declared.pid.Pid.{Pid}
use Rattle.hm_data.specs.declared.call.Told.{Told}
use Rattle.hm_data.specs.declared.entry.Entry.{Entry}
use Rattle.hm_data.specs.declared.entry.Entry.TheVariants as entry_is
use Rattle.hm_data.specs.declared.sheet.Sheet.{Sheet}
use Rattle.hm_data.specs.declared.step.StepIn.{StepIn}
use Rattle.hm_data.specs.declared.step.StepOut.{StepOut}
use Rattle.hm_hall.specs.declared.fault.HallFault.{HallFault}
use Rattle.hm_hall.specs.declared.fault.HallFault.TheVariants as fault_is
use Rattle.hm_hall.specs.declared.fault.Halt.{Halt}
use Rattle.hm_hall.specs.declared.fault.Halt.TheVariants as halt_is
use Rattle.hm_hall.specs.declared.hall.Task.{Task}
use Rattle.hm_hall.specs.declared.hall.Task.TheVariants as task_is
use Rattle.hm_hall.specs.declared.taken.Given.{Given}
use Rattle.hm_hall.specs.declared.taken.Given.TheVariants as given_is
use Rattle.hm_hall.specs.declared.taken.Taken.{Taken}
use Rattle.hm_model.specs.Evaluation.{CanRun}
use Rattle.hm_model.specs.Journal.{Past, back}
use Rattle.hm_model.specs.Locks.{IsIn}
use Rattle.hm_model.specs.Rest.{IsAvailable}

-- the parts of the base, what is recorded behind it, the pids that are out, what stopped it, and the sheets of each edition, by which
-- its procedures run
pub record HallView : Type 0 where
  pub base : List Entry
  pub items : List Entry
  pub outs : List ℕ
  pub stopped : Option Halt
  pub sheets : ℕ → List Sheet

-- nothing stopped it
abbrev pub IsOpen : HallView → Type 0
IsOpen at = at.stopped ≡ None

-- this stopped it before the call, which changes nothing
abbrev pub IsShut : HallView → Halt → HallView → Type 0
IsShut old why new = (old.stopped ≡ Some why) × (new ≡ old)

-- a pid is out from now on, beside those that were
abbrev pub GoesOut : ℕ → List ℕ → List ℕ → Type 0
GoesOut p old new = (q : ℕ) → IsIn q new ↔ ((q ≡ p) ⊎ IsIn q old)

-- a pid isn't out any more, and the others stay out
abbrev pub ComesBack : ℕ → List ℕ → List ℕ → Type 0
ComesBack p old new = (q : ℕ) → IsIn q new ↔ (IsIn q old × (q ≢ p))

-- the journal, back from its newest entry
abbrev pub journal_of : HallView → Past
journal_of at = back (at.base ++ at.items)

-- a procedure may go on, beside those that are out
abbrev pub CanGoOut : HallView → ℕ → Type 0
CanGoOut at p = IsAvailable (journal_of at) at.outs at.outs p

-- none may
abbrev pub NoneCanGoOut : HallView → Type 0
NoneCanGoOut at = (p : ℕ) → CanGoOut at p → ⊥

-- one that may goes out, with an input on which its kind's sheet can be asked; nothing is recorded
abbrev pub HandsOut : HallView → Taken → HallView → Type 0
HandsOut old taken new =
    let pid = taken.pid in
    CanGoOut old pid.0 × CanRun (old.sheets taken.was.edition) taken.was × GoesOut pid.0 old.outs new.outs × (new ≡ record old { outs = new.outs })

-- what `take` answers, and what is left: a procedure goes out where one may, and else nothing changes
abbrev pub AnswersTake : HallView → Result Task HallFault → HallView → Type 0
AnswersTake old (Ok (task_is.Run taken)) new = IsOpen old × HandsOut old taken new
AnswersTake old (Ok task_is.Busy) new = IsOpen old × NoneCanGoOut old × (old.outs ≢ []) × (new ≡ old)
AnswersTake old (Ok task_is.Idle) new = IsOpen old × NoneCanGoOut old × (old.outs ≡ []) × (new ≡ old)
AnswersTake old (Ok task) new = IsOpen old × NoneCanGoOut old × (new ≡ old)
AnswersTake old (Err (fault_is.Halted why)) new = IsShut old why new
AnswersTake old (Err fault_is.Memory) new = IsOpen old × ((p : ℕ) × CanGoOut old p) × (new ≡ old)
AnswersTake old (Err fault) new = ⊥

-- why nothing is recorded, and what is left: want of memory leaves all as it was; the other two stop it
abbrev pub Fails : HallView → HallFault → HallView → Type 0
Fails old (fault_is.Halted why) new = IsShut old why new
Fails old fault_is.Memory new = IsOpen old × (new ≡ old)
Fails old fault_is.LogFault new = IsOpen old × (new ≡ record old { stopped = Some halt_is.LogFault })
Fails old (fault_is.JournalFull bytes) new = IsOpen old × (new ≡ record old { stopped = Some (halt_is.JournalFull bytes) })

-- the entry is a step of what was taken, or undoes one, with this answer
abbrev pub IsStepOf : Taken → StepOut → Entry → Type 0
IsStepOf taken out (entry_is.Step pid pick its) = let was = taken.was in (pid ≡ taken.pid) × (pick ≡ was.pick) × (its ≡ out)
IsStepOf taken out (entry_is.Undo pid row its) = let was = taken.was in (pid ≡ was.pid) × (row ≡ was.row) × (its ≡ out)
IsStepOf taken out entry = ⊥

-- an answer is recorded behind the base in this place, and its pid comes back
abbrev pub Keeps : HallView → Taken → StepOut → ℕ → HallView → Type 0
Keeps old taken out number new =
    let pid = taken.pid in
    (number ≡ length old.items) × ComesBack pid.0 old.outs new.outs
    × ((entry : Entry) × IsStepOf taken out entry × (new ≡ record old { items = old.items ++ entry ∷ []; outs = new.outs }))

-- a pid comes back, and nothing is recorded
abbrev pub GetsBack : HallView → Taken → HallView → Type 0
GetsBack old taken new = let pid = taken.pid in ComesBack pid.0 old.outs new.outs × (new ≡ record old { outs = new.outs })

-- it is another input, or the pick that was handed out fits no more, and it has none
abbrev pub IsOther : StepIn → StepIn → Type 0
IsOther was now = (now ≢ was) ⊎ (now.pick ≡ None)

-- what `give` answers, and what is left: what was taken comes back, but where a fault keeps its answer from being recorded
abbrev pub AnswersGive : HallView → Taken → StepOut → Result Given (Taken × HallFault) → HallView → Type 0
AnswersGive old taken out (Ok (given_is.Kept number)) new = IsOpen old × Keeps old taken out number new
AnswersGive old taken out (Ok (given_is.Stale was now)) new =
    IsOpen old × (was ≡ taken.was) × IsOther was now × GetsBack old taken new
AnswersGive old taken out (Err (back, fault)) new = (back ≡ taken) × Fails old fault new

-- a report is recorded, or nothing is
abbrev pub MayAddReport : HallView → HallView → Type 0
MayAddReport old new =
    (new ≡ old) ⊎ ((call : Pid) × (told : Told) × (new ≡ record old { items = old.items ++ entry_is.Report call told ∷ [] }))

-- what `carry` answers, and what is left: only a report may be recorded, and nothing where there was nothing to carry
abbrev pub AnswersCarry : HallView → Result Bool HallFault → HallView → Type 0
AnswersCarry old (Ok true) new = IsOpen old × MayAddReport old new
AnswersCarry old (Ok false) new = IsOpen old × (new ≡ old)
AnswersCarry old (Err fault) new = Fails old fault new
