-- What is outside a master, as it is kept, and what travels.
use Rattle.std.specs.Prelude.{◌≡◌, List, [], ◌∷◌, Option, Some, None, Bool, true, false}
use Rattle.hm_names.specs.Region.{Region}
use Rattle.hm_data.specs.declared.call.Call.{Call}
use Rattle.hm_data.specs.declared.call.ReportMsg.{ReportMsg}
use Rattle.hm_model.specs.Actors.{Actor, holds}
use Rattle.hm_server.specs.Actors.{StorageView, storage_of}
use Rattle.hm_world_model.specs.Outside.{Outside, delivered, report_to, with_report}
use Rattle.hm_fleet.specs.Crew.{CrewView, actors_of}

-- the servers that run, and for how many more there is room; the storage; the calls ever sent and the reports ever made; the
-- calls on the wire and the reports that wait, oldest first
pub record FleetView : Type 0 where
  pub crew : CrewView
  pub storage : StorageView
  pub sent : List Call
  pub reports : List ReportMsg
  pub wire : List Call
  pub waiting : List ReportMsg

-- what is outside, by its parts
abbrev pub outside_by : CrewView → StorageView → List Call → List ReportMsg → Outside
outside_by crew storage sent reports = record { actors = actors_of crew; storage = storage_of storage; sent = sent; reports = reports }

abbrev pub outside_of : FleetView → Outside
outside_of fleet = outside_by fleet.crew fleet.storage fleet.sent fleet.reports

-- a server holds a region, where it runs
abbrev pub holds_if : Option Actor → Region → Bool
holds_if None region = false
holds_if (Some actor) region = holds actor region

-- two fleets that differ in nothing but room
pub record IsSame (old new : FleetView) : Type 0 where
  pub outside : outside_of new ≡ outside_of old
  pub wire : new.wire ≡ old.wire
  pub waiting : new.waiting ≡ old.waiting

-- the oldest call on the wire was delivered
pub record IsDelivered (old : FleetView) (call : Call) (new : FleetView) : Type 0 where
  pub wire : old.wire ≡ call ∷ new.wire
  pub outside : outside_of new ≡ delivered (outside_of old) call
  pub waiting : new.waiting ≡ with_report old.waiting (report_to (outside_of old) call)

-- whether there was a call to deliver, and what is left
abbrev pub Delivers : FleetView → Bool → FleetView → Type 0
Delivers old true new = (call : Call) × IsDelivered old call new
Delivers old false new = (old.wire ≡ []) × IsSame old new
