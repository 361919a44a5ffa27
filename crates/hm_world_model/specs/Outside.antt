-- What is outside the master: the servers and the storage, the calls ever sent and the reports ever made.
use Rattle.std.specs.Prelude.{ℕ, List, [], ◌∷◌, ◌++◌, Option, Some, None, Bool, true, is_some, if◌then◌else◌}
use Rattle.std.specs.Option.{option_map}
use Rattle.hm_names.specs.Server.{Server}
use Rattle.hm_data.specs.declared.call.Call.{Call}
use Rattle.hm_data.specs.declared.call.Peer.{Peer}
use Rattle.hm_data.specs.declared.call.Peer.TheVariants as peer_is
use Rattle.hm_data.specs.declared.call.ReportMsg.{ReportMsg}
use Rattle.hm_model.specs.Actors.{Actor, begun, serve}
use Rattle.hm_model.specs.Storages.{Storage, store}
use Rattle.hm_model.specs.Fleet.{same_address, same_server}

-- all that a stop of the master leaves: the servers that run, by their names, the storage, and, from the oldest on, the calls
-- that were ever sent and the reports that were ever made
pub record Outside : Type 0 where
  pub actors : Server → Option Actor
  pub storage : Storage
  pub sent : List Call
  pub reports : List ReportMsg

-- nobody runs, nothing was sent
abbrev pub nobody : Storage → Outside
nobody storage = record { actors = λ server. None; storage = storage; sent = []; reports = [] }

-- who is called runs. The storage always does.
abbrev pub runs : Outside → Peer → Bool
runs o (peer_is.Server server) = is_some (o.actors server)
runs o peer_is.Storage = true

-- servers, with this in place of one
abbrev pub set_actor : (Server → Option Actor) → Server → Option Actor → Server → Option Actor
set_actor actors server actor other = if same_server server other then actor else actors other

-- one report more, if one was made
abbrev pub with_report : List ReportMsg → Option ReportMsg → List ReportMsg
with_report reports None = reports
with_report reports (Some report) = reports ++ report ∷ []

-- what a server answers, where it runs
abbrev pub answer_of_actor : Option Actor → Call → Option ReportMsg
answer_of_actor None call = None
answer_of_actor (Some actor) call = (serve actor call).1

-- what who is called answers
abbrev pub answer_by : Outside → Call → Peer → Option ReportMsg
answer_by o call (peer_is.Server server) = answer_of_actor (o.actors server) call
answer_by o call peer_is.Storage = (store o.storage call).1

-- the report that comes of a call that is delivered, if one comes
abbrev pub report_to : Outside → Call → Option ReportMsg
report_to o call = answer_by o call call.peer

-- a server after a call, where it runs
abbrev pub behind_call : Option Actor → Call → Option Actor
behind_call None call = None
behind_call (Some actor) call = Some (serve actor call).0

-- a call is served by whom it is for, and what it answers is among the reports
abbrev pub deliver_by : Outside → Call → Peer → Outside
deliver_by o call (peer_is.Server server) =
    record o { actors = set_actor o.actors server (behind_call (o.actors server) call); reports = with_report o.reports (answer_by o call (peer_is.Server server)) }
deliver_by o call peer_is.Storage =
    record o { storage = (store o.storage call).0; reports = with_report o.reports (answer_by o call peer_is.Storage) }

-- a call reached the one who is called
abbrev pub delivered : Outside → Call → Outside
delivered o call = deliver_by o call call.peer

-- a call was sent
abbrev pub with_sent : Outside → Call → Outside
with_sent o call = record o { sent = o.sent ++ call ∷ [] }

-- a server runs, in place of any other of its host and port
abbrev pub started : Outside → Server → Outside
started o server =
    record o { actors = λ other. if same_server server other then Some (begun server) else (if same_address server other then None else o.actors other) }

-- a server runs no longer
abbrev pub died : Outside → Server → Outside
died o server = record o { actors = set_actor o.actors server None }

-- so many opens, or layouts, are to be refused
abbrev pub refusing : ℕ → Actor → Actor
refusing count actor = record actor { refusals = count }

-- a peer is to refuse so many
abbrev pub armed : Outside → Peer → ℕ → Outside
armed o (peer_is.Server server) count =
    record o { actors = set_actor o.actors server (option_map (refusing count) (o.actors server)) }
armed o peer_is.Storage count = record o { storage = record o.storage { refusals = count } }
