-- What is seen of a hall whose log may be out to be written, and what its calls answer and leave.
use Rattle.std.specs.Prelude.{◌≡◌, ◌≢◌, ◌⊎◌, ℕ, List, [], ◌∷◌, ◌++◌, length, Bool, true, false, Option, Some, None, Result, Ok, Err, unwrap_or}
use Rattle.hm_names.specs.declared.pid.Pid.{Pid}
use Rattle.hm_data.specs.declared.call.Told.{Told}
use Rattle.hm_data.specs.declared.entry.Entry.{Entry}
use Rattle.hm_data.specs.declared.entry.Entry.TheVariants as entry_is
use Rattle.hm_data.specs.declared.sheet.Sheet.{Sheet}
use Rattle.hm_data.specs.declared.step.StepIn.{StepIn}
use Rattle.hm_data.specs.declared.step.StepOut.{StepOut}
use Rattle.hm_gate.specs.Gate.{Begins}
use Rattle.hm_hall.specs.Hall.{GoesOut, ComesBack, IsOther, IsStepOf}
use Rattle.hm_hall.specs.declared.fault.HallFault.{HallFault}
use Rattle.hm_hall.specs.declared.fault.HallFault.TheVariants as fault_is
use Rattle.hm_hall.specs.declared.fault.Halt.{Halt}
use Rattle.hm_hall.specs.declared.fault.Halt.TheVariants as halt_is
use Rattle.hm_hall.specs.declared.hall.Task.{Task}
use Rattle.hm_hall.specs.declared.hall.Task.TheVariants as task_is
use Rattle.hm_hall.specs.declared.taken.Given.{Given}
use Rattle.hm_hall.specs.declared.taken.Given.TheVariants as given_is
use Rattle.hm_hall.specs.declared.taken.Taken.{Taken}
use Rattle.hm_lend.specs.Outs.{OutView, number_of}
use Rattle.hm_model.specs.Evaluation.{CanRun, answer_of}
use Rattle.hm_model.specs.Locks.{IsIn}

-- the sheets of each edition, if there is one of that number
abbrev pub Editions : Type 0
Editions = ℕ → Option (List Sheet)

-- what is recorded behind the base, how many of it are durable, the pids that are claimed, the number of the log where it is out, what
-- stopped it, and the sheets of each edition by which its procedures run
pub record HallView : Type 0 where
  pub items : List Entry
  pub durable : ℕ
  pub claimed : List ℕ
  pub lent : Option ℕ
  pub stopped : Option Halt
  pub editions : Editions

-- the sheets by which the procedure of an input runs: those of its edition, or none where there is no such edition
abbrev pub in_edition : Editions → StepIn → List Sheet
in_edition editions was = unwrap_or (editions was.edition) []

-- an input on which the sheet of its kind can be asked, in its edition
abbrev pub CanBeServed : Editions → StepIn → Type 0
CanBeServed editions was = CanRun (in_edition editions was) was

-- what the sheet of the input's kind answers, in its edition
abbrev pub Answers : Editions → StepIn → StepOut → Type 0
Answers editions was out = answer_of (in_edition editions was) was ≡ Some out

-- a number is out: that of a procedure that is claimed, or of the log
abbrev pub IsOut : ℕ → HallView → Type 0
IsOut n at = IsIn n at.claimed ⊎ (at.lent ≡ Some n)

-- nothing stopped it
abbrev pub IsOpen : HallView → Type 0
IsOpen at = at.stopped ≡ None

-- this stopped it before the call, which changes nothing
abbrev pub IsShut : HallView → Halt → HallView → Type 0
IsShut old why new = (old.stopped ≡ Some why) × (new ≡ old)

-- which procedures may go on, by what is recorded and who is claimed
abbrev pub Going : Type 1
Going = List Entry → List ℕ → ℕ → Type 0

-- none may
abbrev pub NoneCanGo : Going → HallView → Type 0
NoneCanGo can at = (p : ℕ) → can at.items at.claimed p → ⊥

-- something recorded isn't durable, and the log is in
abbrev pub HasToFlush : HallView → Type 0
HasToFlush at = (at.durable ≢ length at.items) × (at.lent ≡ None)

-- somebody is claimed, or the log is out
abbrev pub IsBusy : HallView → Type 0
IsBusy at = (at.claimed ≢ []) ⊎ (at.lent ≢ None)

-- nobody is claimed, the log is in, and all that was recorded is durable
abbrev pub IsIdle : HallView → Type 0
IsIdle at = (at.claimed ≡ []) × (at.lent ≡ None) × (at.durable ≡ length at.items)

-- one that may goes out, which wasn't out, with an input on which its sheet can be asked; nothing is recorded
abbrev pub HandsOut : Going → HallView → Taken → HallView → Type 0
HandsOut can old taken new =
    let pid = taken.pid in
    can old.items old.claimed pid.0 × CanBeServed old.editions taken.was × (IsOut pid.0 old → ⊥) × GoesOut pid.0 old.claimed new.claimed × (new ≡ record old { claimed = new.claimed })

-- what `take` answers, and what is left: a procedure goes out where one may, and else nothing changes
abbrev pub AnswersTake : Going → HallView → Result Task HallFault → HallView → Type 0
AnswersTake can old (Ok (task_is.Run taken)) new = IsOpen old × HandsOut can old taken new
AnswersTake can old (Ok task_is.Flush) new = IsOpen old × NoneCanGo can old × HasToFlush old × (new ≡ old)
AnswersTake can old (Ok task_is.Carry) new = IsOpen old × NoneCanGo can old × (HasToFlush old → ⊥) × (new ≡ old)
AnswersTake can old (Ok task_is.Busy) new = IsOpen old × NoneCanGo can old × (HasToFlush old → ⊥) × IsBusy old × (new ≡ old)
AnswersTake can old (Ok task_is.Idle) new = IsOpen old × NoneCanGo can old × IsIdle old × (new ≡ old)
AnswersTake can old (Err (fault_is.Halted why)) new = IsShut old why new
AnswersTake can old (Err fault_is.Memory) new = IsOpen old × ((p : ℕ) × can old.items old.claimed p) × (new ≡ old)
AnswersTake can old (Err fault) new = ⊥

-- why nothing is recorded, and what is left: want of memory leaves all as it was, and a full journal stops it. What is
-- recorded is written later, so no fault of the log comes of it.
abbrev pub Fails : HallView → HallFault → HallView → Type 0
Fails old (fault_is.Halted why) new = IsShut old why new
Fails old fault_is.Memory new = IsOpen old × (new ≡ old)
Fails old (fault_is.JournalFull bytes) new = IsOpen old × (new ≡ record old { stopped = Some (halt_is.JournalFull bytes) })
Fails old fault_is.LogFault new = ⊥

-- an answer is recorded as the entry with this number, and its pid comes back
abbrev pub Keeps : HallView → Taken → StepOut → ℕ → HallView → Type 0
Keeps old taken out number new =
    let pid = taken.pid in
    (number ≡ length old.items) × ComesBack pid.0 old.claimed new.claimed × (IsOut pid.0 new → ⊥)
    × ((entry : Entry) × IsStepOf taken out entry × (new ≡ record old { items = old.items ++ entry ∷ []; claimed = new.claimed }))

-- a pid comes back, and nothing is recorded
abbrev pub GetsBack : HallView → Taken → HallView → Type 0
GetsBack old taken new =
    let pid = taken.pid in ComesBack pid.0 old.claimed new.claimed × (IsOut pid.0 new → ⊥) × (new ≡ record old { claimed = new.claimed })

-- what `give` answers, and what is left: what was taken comes back, but where a fault keeps its answer from being recorded
abbrev pub AnswersGive : HallView → Taken → StepOut → Result Given (Taken × HallFault) → HallView → Type 0
AnswersGive old taken out (Ok (given_is.Kept number)) new = IsOpen old × Keeps old taken out number new
AnswersGive old taken out (Ok (given_is.Stale was now)) new =
    IsOpen old × (was ≡ taken.was) × IsOther was now × GetsBack old taken new
AnswersGive old taken out (Err (back, fault)) new = (back ≡ taken) × Fails old fault new

-- a report is recorded, or nothing is
abbrev pub MayAddReport : HallView → HallView → Type 0
MayAddReport old new =
    (new ≡ old) ⊎ ((call : Pid) × (told : Told) × (new ≡ record old { items = old.items ++ entry_is.Report call told ∷ [] }))

-- what `carry` answers, and what is left: only a report may be recorded, and nothing where there was nothing to carry
abbrev pub AnswersCarry : HallView → Result Bool HallFault → HallView → Type 0
AnswersCarry old (Ok true) new = IsOpen old × MayAddReport old new
AnswersCarry old (Ok false) new = IsOpen old × (new ≡ old)
AnswersCarry old (Err fault) new = Fails old fault new

-- there is nothing to lend: all is durable, the log is out, or it failed
abbrev pub HasNone : HallView → Type 0
HasNone at = (at.durable ≡ length at.items) ⊎ ((at.lent ≢ None) ⊎ (at.stopped ≡ Some halt_is.LogFault))

-- what `lend` answers, and what is left: the log goes out with all that is recorded, by a number that wasn't out
abbrev pub AnswersLend : {T : Type 0} → HallView → Option (OutView T) → HallView → Type 0
AnswersLend old None new = HasNone old × (new ≡ old)
AnswersLend old (Some out) new =
    (HasNone old → ⊥) × (out.list ≡ old.items) × (out.durable ≡ old.durable) × (out.written ≡ false)
    × (IsOut (number_of out) old → ⊥)
    × (new ≡ record old { lent = Some (number_of out) })

-- a log may come back: its number is out, the list begins with its own, and it was written
pub record MayComeBack {T : Type 0} (at : HallView) (out : OutView T) : Type 0 where
  pub is_out : IsOut (number_of out) at
  pub begins : Begins at.items out.list
  pub written : out.written ≡ true

-- what `back` answers, and what is left: what went out is durable, or the log failed, which stops it. The log was out by its
-- number, and is in
abbrev pub AnswersBack : {T : Type 0} → HallView → OutView T → Result ℕ HallFault → HallView → Type 0
AnswersBack old out (Ok number) new =
    (old.lent ≡ Some (number_of out)) × (number ≡ length out.list) × (IsOut (number_of out) new → ⊥) × (new ≡ record old { durable = number; lent = None })
AnswersBack old out (Err fault_is.LogFault) new =
    (old.lent ≡ Some (number_of out)) × (IsOut (number_of out) new → ⊥) × (new ≡ record old { stopped = Some halt_is.LogFault; lent = None })
AnswersBack old out (Err fault) new = ⊥

-- what stopped a hall is answered by `take`, which then changes nothing
abbrev pub TakingStopsFirst : {T : Type 0} → (T → List Entry → List ℕ → ℕ → Type 0) → Type 0
TakingStopsFirst {T} can_go =
    (terms : T) (old new : HallView) (why : Halt) (answer : Result Task HallFault)
    → old.stopped ≡ Some why → AnswersTake (can_go terms) old answer new → (answer ≡ Err (fault_is.Halted why)) × (new ≡ old)
