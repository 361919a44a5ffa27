-- What a call leaves, by its parts.
use Rattle.std.proofs.Common.{◌≡◌, ℕ, List, Err, inl, refl}
use Rattle.hm_names.specs.Server.{Server}
use Rattle.hm_data.specs.declared.call.Call.{Call}
use Rattle.hm_data.specs.declared.call.ReportMsg.{ReportMsg}
use Rattle.hm_hall.specs.Recording.{Recording}
use Rattle.hm_hall.specs.declared.fault.HallFault.TheVariants as fault_is
use Rattle.hm_exec.specs.Fleet.{AnswersUp}
use Rattle.hm_exec.specs.declared.answers.UpWhy.{UpWhy}
use Rattle.hm_exec.specs.declared.answers.UpWhy.TheVariants as up_why
use Rattle.hm_fleet.specs.Fleet.{FleetView, outside_of}
use Rattle.hm_world_model.specs.Outside.{Outside}
use Rattle.hm_world.specs.Acts.{Starts}
use Rattle.hm_world.specs.Carrying.{OnlyExec}
use Rattle.hm_world.specs.Scene.{Scene, scene_with}

-- a scene with this fleet
pub scene_is : (kept : Recording) (claimed : List ℕ) (new : FleetView) (o : Outside) (wire : List Call) (waiting : List ReportMsg) → outside_of new ≡ o → new.wire ≡ wire → new.waiting ≡ waiting
    → scene_with kept claimed new ≡ record { exec = record { kept = kept; claimed = claimed }; outside = o; wire = wire; waiting = waiting }
scene_is kept claimed new o wire waiting outside on_wire waits = rw (outside, on_wire, waits) refl

-- a server that doesn't come up isn't started
pub not_started : (old new : Scene) (server : Server) (why : UpWhy) → AnswersUp old.exec server (Err why) new.exec → OnlyExec old new → Starts old server (Err why) new
not_started old new server (up_why.Up why) answers only = (answers, only)
not_started old new server (up_why.Fault fault_is.Memory) answers only = (inl answers, only)
not_started old new server (up_why.Fault fault) answers only = (answers, only)
