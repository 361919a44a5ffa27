-- Region servers and the storage, as they are kept.
use Rattle.std.specs.Prelude.{◌≡◌, ◌↔◌, ℕ, List, [], ◌∷◌, Option, Some, None, Bool, true, false, is_some, if◌then◌else◌}
use Rattle.std.specs.List.Sorted.{IsStrictlySortedBy}
use Rattle.std.specs.Option.{option_map}
use Rattle.hm_names.specs.Order.{region_cmp, server_cmp, pid_cmp}
use Rattle.hm_names.specs.Region.{Region}
use Rattle.hm_names.specs.Server.{Server}
use Rattle.hm_names.specs.declared.pid.Pid.{Pid}
use Rattle.hm_data.specs.declared.call.Told.{Told}
use Rattle.hm_index.specs.Index.{IndexView, find}
use Rattle.hm_model.specs.Actors.{Actor, Served, Service, holds}
use Rattle.hm_model.specs.Locks.{IsIn}
use Rattle.hm_model.specs.Storages.{Storage}
use Rattle.hm_server.specs.declared.actor.Doing.{Doing}
use Rattle.hm_server.specs.declared.duty.Duty.{Duty}

-- a region server: its name, the regions about which it served a call, in name order, and how many opens it is to refuse
pub record ActorView : Type 0 where
  pub name : Server
  pub duties : List (Region × Duty)
  pub refusals : ℕ

-- what it served, as calls are told of it
abbrev pub served : Duty → Served
served duty = record { id = duty.id; told = duty.told; holds = duty.holds }

abbrev pub last_in : List (Region × Duty) → Region → Option Served
last_in duties region = option_map served (find region_cmp duties region)

-- the same as a server that serves calls
abbrev pub actor_of : ActorView → Actor
actor_of view = record { name = view.name; last = last_in view.duties; refusals = view.refusals }

-- two servers that keep the same
pub record IsActor (one other : Actor) : Type 0 where
  pub name : one.name ≡ other.name
  pub last : (region : Region) → one.last region ≡ other.last region
  pub refusals : one.refusals ≡ other.refusals

-- the storage: its answers by their calls, the servers that it fenced, whether each layout is there, and how many it is to
-- refuse
pub record StorageView : Type 0 where
  pub answers : List (Pid × Told)
  pub fenced : List (Server × Unit {0})
  pub laid : List (Pid × Bool)
  pub refusals : ℕ

abbrev pub laid_if : Option Bool → Bool
laid_if None = false
laid_if (Some there) = there

-- what was answered to a call, which servers are fenced, which layouts are there
abbrev pub answer_in : List (Pid × Told) → Pid → Option Told
answer_in answers id = find pid_cmp answers id

abbrev pub is_fenced_in : List (Server × Unit {0}) → Server → Bool
is_fenced_in fenced server = is_some (find server_cmp fenced server)

abbrev pub is_laid_in : List (Pid × Bool) → Pid → Bool
is_laid_in laid root = laid_if (find pid_cmp laid root)

-- the same as a storage that serves calls
abbrev pub storage_of : StorageView → Storage
storage_of view = record {
  answer = answer_in view.answers;
  fenced = is_fenced_in view.fenced;
  laid = is_laid_in view.laid;
  refusals = view.refusals;
}

-- two storages that keep the same
pub record IsStorage (one other : Storage) : Type 0 where
  pub answer : (id : Pid) → one.answer id ≡ other.answer id
  pub fenced : (server : Server) → one.fenced server ≡ other.fenced server
  pub laid : (root : Pid) → one.laid root ≡ other.laid root
  pub refusals : one.refusals ≡ other.refusals

-- what is kept, once something is
abbrev pub duties_of : Option (IndexView Region Duty) → List (Region × Duty)
duties_of None = []
duties_of (Some index) = index.pairs

-- the same of those that are left
abbrev pub left_in : Option (List (Region × Duty)) → List (Region × Duty)
left_in None = []
left_in (Some duties) = duties

-- the regions that are held
abbrev pub held_in : List (Region × Duty) → List Region
held_in [] = []
held_in ((region, duty) ∷ more) = if duty.holds then region ∷ held_in more else held_in more

-- the regions that a server holds, in name order, each once
abbrev pub AreHeldBy : Actor → List Region → Type 0
AreHeldBy actor list = IsStrictlySortedBy region_cmp list × ((region : Region) → IsIn region list ↔ (holds actor region ≡ true))

-- what a new call does, as calls are told of it
abbrev pub service : Doing → Service
service doing = record { told = doing.told; holds = doing.holds; refusals = doing.refusals }
