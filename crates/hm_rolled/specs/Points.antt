-- What follows for each region in terms of the master's own journal, as a list of points.
use Rattle.std.specs.Prelude.{◌≡◌, ◌≢◌, ℕ, ◌<◌, ◌≤◌, length, None, Some, true, false}
use Rattle.hm_names.specs.Region.{Region}
use Rattle.hm_names.specs.Server.{Server}
use Rattle.hm_names.specs.declared.range.KeyRange.{KeyRange}
use Rattle.hm_names.specs.declared.table.TableName.{TableName}
use Rattle.hm_data.specs.declared.call.Call.{Call}
use Rattle.hm_data.specs.declared.call.Peer.TheVariants as peer_is
use Rattle.hm_data.specs.declared.call.Verb.{Verb}
use Rattle.hm_data.specs.declared.call.Verb.TheVariants as verb_is
use Rattle.hm_data.specs.declared.entry.Entry.TheVariants as entry_is
use Rattle.hm_model.specs.Actors.{Actor, holds}
use Rattle.hm_model.specs.Catalog.{cat}
use Rattle.hm_model.specs.Fleet.{is_fenced}
use Rattle.hm_model.specs.Journal.{Past}
use Rattle.hm_model.specs.Locks.{IsIn}
use Rattle.hm_model.specs.Places.{is_at, place_of}
use Rattle.hm_model.specs.Procedures.{offset}
use Rattle.hm_model.specs.Ranges.{IsLiveWith, NoneOverlap}
use Rattle.hm_model.specs.Reports.{call_of, last_call, peer_of, verb_of}
use Rattle.hm_model.specs.Rules.{Allowed}
use Rattle.hm_model.specs.Single.{IsBasedAt}
use Rattle.hm_world_model.specs.Outside.{Outside}
use Rattle.hm_world_model.specs.Points.{IsShut, MayHold}
use Rattle.hm_world_model.specs.Safe.{CallsTo, HasServed, IsKept, Runs}
use Rattle.hm_world_model.specs.World.{World, first, rebased_by, whole}

-- of the history, of the master's own journal, and of what is outside
pub record OwnPoints (J K : Past) (o : Outside) : Type 0 where
  -- each call that its own journal tells is new: its number is above those that the base stands for
  pub new : (p : ℕ) (verb : Verb) → verb_of K p ≡ Some verb → offset K < p
  -- each new call about a region but the last: its server has served it, or is fenced, or doesn't run
  pub served : (p : ℕ) (region : Region) (server : Server) (actor : Actor)
      → CallsTo K p region server → last_call K region ≢ Some p → Runs K o server actor → HasServed actor region p
  -- and a server that was called never comes up again
  pub never_again : (p : ℕ) (region : Region) (server : Server) → CallsTo K p region server → Allowed K (entry_is.Up server) → ⊥
  -- each new call that was ever sent is recorded
  pub sent : (call : Call) → IsIn call o.sent → offset K < call.id.0 → call_of K call.id.0 ≡ Some call
  -- where a region has a new call, no server but the last new call's holds it, or has yet to serve a call, new or old, that opens it
  pub alone : (region : Region) (q : ℕ) → last_call K region ≡ Some q
      → (server : Server) (actor : Actor) → Runs K o server actor → MayHold J actor region server
      → peer_of K q ≡ Some (peer_is.Server server)
  -- nobody holds a region whose last new call left it closed
  pub closed : (region : Region) (p : ℕ) → last_call K region ≡ Some p → IsShut K p
      → (server : Server) (actor : Actor) → Runs K o server actor → holds actor region ≡ false
  -- each older call to open a region: its server has served it, or is fenced, or doesn't run
  pub old : (p : ℕ) (region : Region) (server : Server) (actor : Actor)
      → p ≤ offset K → verb_of J p ≡ Some (verb_is.AssignRegion region) → peer_of J p ≡ Some (peer_is.Server server)
      → Runs K o server actor → HasServed actor region p
  -- a region without a new call is held only where the base has it open
  pub based : (region : Region) (server : Server) (actor : Actor)
      → last_call K region ≡ None → Runs K o server actor → holds actor region ≡ true → IsBasedAt K region server
  -- where a region may be held there is its place
  pub placed : (region : Region) (server : Server) (actor : Actor) → Runs K o server actor → MayHold J actor region server
      → is_at server (place_of K region) ≡ true
  -- who is fenced in its own journal is fenced
  pub fenced : (server : Server) → is_fenced K server ≡ true → o.storage.fenced server ≡ true
  -- a region that a running server holds, which isn't fenced, is live
  pub live : (region : Region) (server : Server) (actor : Actor) → Runs K o server actor → holds actor region ≡ true
      → (range : KeyRange) × IsLiveWith (cat K) region range
  -- and live regions of one table don't overlap
  pub apart : (table : TableName) → NoneOverlap (cat K) table

-- they hold for each length that a stop may leave, rolled or not
abbrev pub OwnPointsHold : Type 0
OwnPointsHold =
    (w : World) → IsKept w → (k : ℕ) → w.durable ≤ k → k ≤ length (whole w)
    → OwnPoints (first k (whole w)) (rebased_by w.rolled (first k (whole w))) w.outside
