-- The storage: what it keeps, and how it serves calls.
use Rattle.std.specs.Prelude.{ℕ, ◌-◌, Option, Some, None, Bool, true, false, ◌==◌, ◌||◌, if◌then◌else◌, nat_lt}
use Rattle.hm_names.specs.Server.{Server}
use Rattle.hm_names.specs.declared.pid.Pid.{Pid}
use Rattle.hm_data.specs.declared.call.Call.{Call}
use Rattle.hm_data.specs.declared.call.Peer.TheVariants as peer_is
use Rattle.hm_data.specs.declared.call.ReportMsg.{ReportMsg}
use Rattle.hm_data.specs.declared.call.Told.{Told}
use Rattle.hm_data.specs.declared.call.Told.TheVariants as told_is
use Rattle.hm_data.specs.declared.call.Verb.{Verb}
use Rattle.hm_data.specs.declared.call.Verb.TheVariants as verb_is
use Rattle.hm_model.specs.Fleet.{same_server}

-- the storage: the answer of each call that it served, which servers it fenced, which layouts are there, and how many it is
-- to refuse
pub record Storage : Type 0 where
  pub answer : Pid → Option Told
  pub fenced : Server → Bool
  pub laid : Pid → Bool
  pub refusals : ℕ

-- one that served nothing
abbrev pub empty_storage : Storage
empty_storage = record { answer = λ id. None; fenced = λ server. false; laid = λ root. false; refusals = 0 }

-- the storage after a new call with its answer
abbrev pub answered : Pid → Told → Storage → Storage
answered id told storage = record {
  answer = λ other. if id.0 == other.0 then Some told else storage.answer other;
  fenced = storage.fenced;
  laid = storage.laid;
  refusals = storage.refusals;
}

-- a server is fenced
abbrev pub fence_in : Server → Storage → Storage
fence_in server storage = record { answer = storage.answer; fenced = λ other. same_server server other || storage.fenced other; laid = storage.laid; refusals = storage.refusals }

-- a layout is there, or is gone
abbrev pub lay_in : Pid → Bool → Storage → Storage
lay_in root there storage = record { answer = storage.answer; fenced = storage.fenced; laid = λ other. if root.0 == other.0 then there else storage.laid other; refusals = storage.refusals }

-- one refusal less
abbrev pub refuse_in : Storage → Storage
refuse_in storage = record { answer = storage.answer; fenced = storage.fenced; laid = storage.laid; refusals = storage.refusals - 1 }

-- the report of the storage
abbrev pub stored : Pid → Told → ReportMsg
stored id told = record { call = id; from = peer_is.Storage; told = told }

-- a call that was served is answered as it was, and a new one is served
abbrev pub store_by : Option Told → Storage → Pid → Told → Storage → Storage × Option ReportMsg
store_by (Some before) storage id told after = (storage, Some (stored id before))
store_by None storage id told after = (answered id told after, Some (stored id told))

-- what the storage does at a call, by what is asked; opens and closes are not for it
abbrev pub store_verb : Storage → Pid → Verb → Storage × Option ReportMsg
store_verb storage id (verb_is.Fence server) = store_by (storage.answer id) storage id told_is.Fenced (fence_in server storage)
store_verb storage id (verb_is.Layout root) =
    if nat_lt 0 storage.refusals then store_by (storage.answer id) storage id told_is.Refused (refuse_in storage) else store_by (storage.answer id) storage id told_is.LaidOut (lay_in root true storage)
store_verb storage id (verb_is.Sweep root) = store_by (storage.answer id) storage id told_is.Swept (lay_in root false storage)
store_verb storage id verb = (storage, None)

-- how the storage serves a call, whoever it is for
abbrev pub store : Storage → Call → Storage × Option ReportMsg
store storage call = store_verb storage call.id call.verb
