-- How a seat of a hall stands, and what a worker knows.
use Rattle.std.specs.Prelude.{◌≡◌, ◌⊎◌, ℕ, ◌≤◌, true, List, [], length, Some, Result, Ok, Err}
use Rattle.hm_data.specs.declared.entry.Entry.{Entry}
use Rattle.hm_data.specs.declared.step.StepIn.{StepIn}
use Rattle.hm_data.specs.declared.step.StepOut.{StepOut}
use Rattle.hm_gate.specs.Gate.{IsOutside}
use Rattle.hm_gate.specs.Total.{times, same}
use Rattle.hm_gate.specs.Whole.{Whole}
use Rattle.hm_gate.specs.declared.view.View.{View}
use Rattle.hm_hall.specs.declared.fault.HallFault.{HallFault}
use Rattle.hm_hall.specs.declared.fault.HallFault.TheVariants as fault_is
use Rattle.hm_hall.specs.declared.hall.Task.{Task}
use Rattle.hm_hall.specs.declared.hall.Task.TheVariants as task_is
use Rattle.hm_lend.specs.Hall.{Answers, CanBeServed, Editions, HallView, HasNone}
use Rattle.hm_lend.specs.Outs.{OutView, number_of}
use Rattle.hm_workers.specs.declared.ended.WorkEnd.{WorkEnd}
use Rattle.hm_workers.specs.declared.ended.WorkEnd.TheVariants as end_is

module _ {I T : Type 0} where
  -- the seat is outside, and owes nothing
  abbrev pub IsFree : View I T → Type 0
  IsFree v = IsOutside v × (v.owes ≡ [])

  -- the seat is outside, and owes this number alone
  abbrev pub Owes : View I T → ℕ → Type 0
  Owes v p = IsOutside v × ((n : ℕ) → times n v.owes ≡ same n p)

  -- the same part of the same gate
  pub record IsSamePart (v w : View I T) : Type 0 where
    pub parts : w.parts ≡ v.parts
    pub seats : w.seats ≡ v.seats
    pub opening : w.opening ≡ v.opening
    pub terms : w.terms ≡ v.terms

-- the sheets of each edition, among the terms that the seat knows, are these
abbrev pub Knows : {I T : Type 0} → (T → Editions) → View I T → Editions → Type 0
Knows {I} {T} editions_in v editions = (terms : T) → v.terms ≡ Some terms → editions_in terms ≡ editions

-- by the terms that the seat knows the sheet of the input's kind can be asked at it
abbrev pub MayServe : {I T : Type 0} → (T → Editions) → View I T → StepIn → Type 0
MayServe {I} {T} editions_in v was = (terms : T) × (v.terms ≡ Some terms) × CanBeServed (editions_in terms) was

-- by the terms that the seat knows this is what the sheet of the input's kind answers at it
abbrev pub IsServed : {I T : Type 0} → (T → Editions) → View I T → StepIn → StepOut → Type 0
IsServed {I} {T} editions_in v was out = (terms : T) × (v.terms ≡ Some terms) × Answers (editions_in terms) was out

-- the list that the seat saw is at rest, by the terms that it knows
abbrev pub RestsAt : {T : Type 0} → (T → List Entry → Type 0) → View Entry T → Type 0
RestsAt {T} rests v = (terms : T) × (v.terms ≡ Some terms) × rests terms v.front

-- the seat is stopped, but where memory ran out
abbrev pub StopsBy : {I T : Type 0} → View I T → HallFault → Type 0
StopsBy v fault_is.Memory = Unit {0}
StopsBy v fault = v.stopped ≡ true

-- how the seat stands with a task: it owes what it is to bring back, and the input can be served
abbrev pub TaskIs : {T : Type 0} → (T → Editions) → (T → List Entry → Type 0) → View Entry T → Task → Type 0
TaskIs editions_in rests v (task_is.Run taken) = let pid = taken.pid in Owes v pid.0 × MayServe editions_in v taken.was
TaskIs editions_in rests v task_is.Idle = IsFree v × RestsAt rests v
TaskIs editions_in rests v task = IsFree v

-- the log went out with this seat: it owes its number, and the log has the list that the seat saw and its terms
pub record HasLog {T : Type 0} (v : View Entry T) (out : OutView T) : Type 0 where
  pub owes : Owes v (number_of out)
  pub list : out.list ≡ v.front
  pub terms : v.terms ≡ Some out.terms

-- in the hall, as the seat saw it last, there was nothing to lend, or all of this list is durable
abbrev pub IsFlushed : {S T : Type 0} → (S → Whole Entry T) → (S → HallView) → List Entry → View Entry T → Type 0
IsFlushed {S} {T} shown hall list v = (x : S) × ((shown x).items ≡ v.front) × (HasNone (hall x) ⊎ (length list ≤ (hall x).durable))

-- how the seat stands at the end of a worker
abbrev pub EndIs : {T : Type 0} → (T → List Entry → Type 0) → View Entry T → WorkEnd → Type 0
EndIs rests v end_is.Idle = RestsAt rests v
EndIs rests v end_is.Halted = v.stopped ≡ true
EndIs rests v end_is.Memory = Unit {0}

-- how a worker ends that meets a fault
abbrev pub end_for : HallFault → WorkEnd
end_for fault_is.Memory = end_is.Memory
end_for fault = end_is.Halted

-- nothing is handed out, by a fault that ends a worker as halted
abbrev pub IsShut : Result Task HallFault → Type 0
IsShut (Ok task) = ⊥
IsShut (Err fault) = end_for fault ≡ end_is.Halted
