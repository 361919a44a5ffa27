-- What is kept of a world.
use Rattle.std.specs.Prelude.{◌≡◌, ◌≢◌, ℕ, ◌<◌, ◌∷◌, List, Some, None, false}
use Rattle.hm_data.specs.declared.call.Call.{Call}
use Rattle.hm_data.specs.declared.call.ReportMsg.{ReportMsg}
use Rattle.hm_data.specs.declared.entry.Entry.{Entry}
use Rattle.hm_hall.specs.Recording.{Recording, past_in}
use Rattle.hm_hall.specs.declared.fault.Halt.TheVariants.{LogFault}
use Rattle.hm_model.specs.Journal.{Past}
use Rattle.hm_model.specs.Laws.{is_part}
use Rattle.hm_model.specs.Locks.{IsIn}
use Rattle.hm_fleet.specs.Fleet.{FleetView, outside_of}
use Rattle.hm_world_model.specs.Outside.{Outside}
use Rattle.hm_world_model.specs.Safe.{Safe}
use Rattle.hm_world.specs.Due.{IsDue}

-- what was recorded, with its tail and without it, is safe with what is outside; only what a fault of the log halted has a tail, which is no
-- part of a base
pub record IsSafeWith (kept : Recording) (o : Outside) : Type 0 where
  pub safe : Safe (past_in kept) o
  pub tailed : (entry : Entry) → kept.tail ≡ Some entry → Safe (entry ∷ past_in kept) o
  pub tailless : kept.halted ≢ Some LogFault → kept.tail ≡ None
  pub other : (entry : Entry) → kept.tail ≡ Some entry → is_part entry ≡ false

-- what is on the wire was sent, and what waits was reported
pub record IsSent (wire : List Call) (waiting : List ReportMsg) (o : Outside) : Type 0 where
  pub wire_is : (call : Call) → IsIn call wire → IsIn call o.sent
  pub waiting_is : (report : ReportMsg) → IsIn report waiting → IsIn report o.reports

-- each call that is due has its number among these
abbrev pub HaveDue : Past → Outside → List ℕ → Type 0
HaveDue J o numbers = (call : Call) → IsDue J o call → IsIn call.id.0 numbers

-- so has each of a procedure below a number
abbrev pub HaveDueBelow : Past → Outside → ℕ → List ℕ → Type 0
HaveDueBelow J o n numbers = (call : Call) → IsDue J o call → call.id.0 < n → IsIn call.id.0 numbers

-- what a world keeps
pub record IsSound (kept : Recording) (fleet : FleetView) (numbers : List ℕ) : Type 0 where
  pub safe : IsSafeWith kept (outside_of fleet)
  pub sent : IsSent fleet.wire fleet.waiting (outside_of fleet)
  pub due : HaveDue (past_in kept) (outside_of fleet) numbers
