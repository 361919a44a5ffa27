-- A world as a call finds it, and as it leaves it.
use Rattle.std.specs.Prelude.{ℕ, List, [], length, None}
use Rattle.std.specs.Option.{option_map}
use Rattle.hm_names.specs.declared.pid.Pid.{Pid}
use Rattle.hm_data.specs.declared.call.Call.{Call}
use Rattle.hm_data.specs.declared.call.ReportMsg.{ReportMsg}
use Rattle.hm_hall.specs.Recording.{Recording}
use Rattle.hm_hall.specs.declared.fault.Halt.{Halt}
use Rattle.hm_hall.specs.declared.fault.Halt.TheVariants as halt_is
use Rattle.hm_model.specs.Journal.{Past}
use Rattle.hm_exec.specs.Moment.{IsGoing, Moment, past_of}
use Rattle.hm_fleet.specs.Fleet.{FleetView, outside_of}
use Rattle.hm_world_model.specs.Outside.{Outside}
use Rattle.hm_world_model.specs.World as model
use Rattle.hm_world.specs.Due.{NoneIsBelow, IsDue, IsDueAt, NoneDue}

-- a world: its recorder, who is claimed, and what is outside and travels
pub record WorldView (R : Type 0) : Type 0 where
  pub recorder : R
  pub claimed : List ℕ
  pub fleet : FleetView

-- what the recorder keeps and who is claimed, what is outside, the calls on the wire and the reports that wait
pub record Scene : Type 0 where
  pub exec : Moment
  pub outside : Outside
  pub wire : List Call
  pub waiting : List ReportMsg

-- a world as calls change it
abbrev pub scene_with : Recording → List ℕ → FleetView → Scene
scene_with kept claimed fleet = record {
  exec = record { kept = kept; claimed = claimed };
  outside = outside_of fleet;
  wire = fleet.wire;
  waiting = fleet.waiting;
}

-- what a world shows, of what its recorder has kept
abbrev pub scene_of : {R : Type 0} → (R → Recording) → WorldView R → Scene
scene_of kept world = scene_with (kept world.recorder) world.claimed world.fleet

-- the journal
abbrev pub past_in : Scene → Past
past_in at = past_of at.exec

-- nothing halted it
abbrev pub GoesOn : Scene → Type 0
GoesOn at = IsGoing at.exec

-- no call of a world is due
abbrev pub NoneIsDue : Scene → Type 0
NoneIsDue at = NoneDue (past_in at) at.outside

-- it is the number of a call that is due, and no call with a lower number is
abbrev pub IsFirstNumber : Scene → Pid → Type 0
IsFirstNumber at pid = IsDueAt (past_in at) at.outside pid.0 × NoneIsBelow (past_in at) at.outside pid.0

-- this call is due, and none with a lower number
abbrev pub IsFirstDue : Scene → Call → Type 0
IsFirstDue at call = IsDue (past_in at) at.outside call × NoneIsBelow (past_in at) at.outside call.id.0

-- why a master goes on no longer, without its bytes
abbrev pub halted_by : Halt → model.Halt
halted_by halt_is.LogFault = model.LogFault
halted_by (halt_is.JournalFull bytes) = model.JournalFull

-- the world of which the laws speak: all that is recorded is durable. Who is claimed was taken; for which steps isn't told.
abbrev pub world_of : Scene → model.World
world_of at =
    let exec = at.exec in (let kept = exec.kept in record {
      past = past_of exec;
      tail = kept.tail;
      durable = length (past_of exec);
      taken = exec.claimed;
      claimed = [];
      wire = at.wire;
      waiting = at.waiting;
      outside = at.outside;
      halted = option_map halted_by kept.halted;
      rolled = None;
    })
