-- Region servers: what they keep, and how they serve calls.
use Rattle.std.specs.Prelude.{ℕ, ◌-◌, Option, Some, None, Bool, true, false, if◌then◌else◌, nat_lt}
use Rattle.std.specs.Ordering.{nat_cmp}
use Rattle.std.specs.declared.cmp.Ordering.{Ordering}
use Rattle.std.specs.declared.cmp.Ordering.TheVariants.{Less, Equal, Greater}
use Rattle.hm_names.specs.Region.{Region}
use Rattle.hm_names.specs.Server.{Server}
use Rattle.hm_names.specs.declared.pid.Pid.{Pid}
use Rattle.hm_data.specs.declared.call.Call.{Call}
use Rattle.hm_data.specs.declared.call.Peer.TheVariants as peer_is
use Rattle.hm_data.specs.declared.call.ReportMsg.{ReportMsg}
use Rattle.hm_data.specs.declared.call.Told.{Told}
use Rattle.hm_data.specs.declared.call.Told.TheVariants as told_is
use Rattle.hm_data.specs.declared.call.Verb.{Verb}
use Rattle.hm_data.specs.declared.call.Verb.TheVariants as verb_is
use Rattle.hm_model.specs.Keys.{same_region}

-- the last call about a region that a server served: its id, the answer, and whether the region is held since
pub record Served : Type 0 where
  pub id : Pid
  pub told : Told
  pub holds : Bool

-- a region server: what it served last about each region, and how many opens it is to refuse
pub record Actor : Type 0 where
  pub name : Server
  pub last : Region → Option Served
  pub refusals : ℕ

-- one that just began
abbrev pub begun : Server → Actor
begun name = record { name = name; last = λ region. None; refusals = 0 }

-- whether the last call that was served left a region held
abbrev pub holds_if : Option Served → Bool
holds_if None = false
holds_if (Some served) = served.holds

-- a region is held
abbrev pub holds : Actor → Region → Bool
holds actor region = holds_if (actor.last region)

-- how a call's id stands to the last that was served: Less is older, Equal the same, Greater new
abbrev pub age : Option Served → Pid → Ordering
age None id = Greater
age (Some last) id = nat_cmp id.0 last.id.0

-- what a call that is new does
pub record Service : Type 0 where
  pub told : Told
  pub holds : Bool
  pub refusals : ℕ

-- an open is refused while some are to be refused, which leaves what is held; a close gives the region up
abbrev pub opening : Actor → Region → Service
opening actor region =
    if nat_lt 0 actor.refusals
    then (record { told = told_is.FailedOpen; holds = holds actor region; refusals = actor.refusals - 1 })
    else (record { told = told_is.Opened; holds = true; refusals = actor.refusals })

-- what a close does
abbrev pub closing : Actor → Service
closing actor = record { told = told_is.Closed; holds = false; refusals = actor.refusals }

-- a report of a server
abbrev pub reported : Actor → Pid → Told → ReportMsg
reported actor id told = record { call = id; from = peer_is.Server actor.name; told = told }

-- the answer that was given last, once more
abbrev pub once_more : Actor → Pid → Option Served → Option ReportMsg
once_more actor id None = None
once_more actor id (Some last) = Some (reported actor id last.told)

-- a server after a new call about a region
abbrev pub behind : Actor → Pid → Region → Service → Actor
behind actor id region service = record {
  name = actor.name;
  last = λ other. if same_region region other then Some (record { id = id; told = service.told; holds = service.holds }) else actor.last other;
  refusals = service.refusals;
}

-- an older call does nothing, the same is answered as it was, and a new one is served
abbrev pub serve_by : Ordering → Actor → Pid → Region → Service → Actor × Option ReportMsg
serve_by Less actor id region service = (actor, None)
serve_by Equal actor id region service = (actor, once_more actor id (actor.last region))
serve_by Greater actor id region service = (behind actor id region service, Some (reported actor id service.told))

-- what a server does at a call, by what is asked; a fence and layouts are not for it
abbrev pub serve_verb : Actor → Pid → Verb → Actor × Option ReportMsg
serve_verb actor id (verb_is.AssignRegion region) = serve_by (age (actor.last region) id) actor id region (opening actor region)
serve_verb actor id (verb_is.CloseRegion region) = serve_by (age (actor.last region) id) actor id region (closing actor)
serve_verb actor id verb = (actor, None)

-- how a server serves a call, whoever it is for
abbrev pub serve : Actor → Call → Actor × Option ReportMsg
serve actor call = serve_verb actor call.id call.verb
