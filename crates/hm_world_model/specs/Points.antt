-- What follows for each region, as a list of points.
use Rattle.std.specs.Prelude.{◌≡◌, ◌≢◌, ℕ, ◌↔◌, ◌≤◌, [], length, Some, true, false, ◌⊎◌, Option}
use Rattle.hm_names.specs.Region.{Region}
use Rattle.hm_names.specs.Server.{Server}
use Rattle.hm_names.specs.declared.range.KeyRange.{KeyRange}
use Rattle.hm_names.specs.declared.table.TableName.{TableName}
use Rattle.hm_data.specs.declared.args.Args.TheVariants as args_are
use Rattle.hm_data.specs.declared.call.Call.{Call}
use Rattle.hm_data.specs.declared.call.Peer.TheVariants as peer_is
use Rattle.hm_data.specs.declared.call.Told.TheVariants as told_is
use Rattle.hm_data.specs.declared.call.Verb.TheVariants as verb_is
use Rattle.hm_data.specs.declared.catalog.CatKey.TheVariants as key_is
use Rattle.hm_data.specs.declared.catalog.CatRow.TheVariants as row_is
use Rattle.hm_data.specs.declared.catalog.TableState.{TableState}
use Rattle.hm_data.specs.declared.catalog.TableState.TheVariants as state_is
use Rattle.hm_data.specs.declared.entry.Entry.TheVariants as entry_is
use Rattle.hm_data.specs.declared.place.Goal.TheVariants as goal_is
use Rattle.hm_data.specs.declared.request.Request.{Request}
use Rattle.hm_data.specs.declared.place.RegionState.TheVariants as place_is
use Rattle.hm_model.specs.Actors.{Actor, holds}
use Rattle.hm_model.specs.Answers.{is_stopped, last_answer, report_of}
use Rattle.hm_model.specs.Catalog.{cat}
use Rattle.hm_model.specs.Fleet.{is_fenced}
use Rattle.hm_model.specs.Holding.{HoldsWith}
use Rattle.hm_model.specs.Journal.{Past}
use Rattle.hm_model.specs.Locks.{IsIn}
use Rattle.hm_model.specs.Places.{is_at, place_of}
use Rattle.hm_model.specs.Phase.{root_ended}
use Rattle.hm_model.specs.Ranges.{IsLiveWith, NoneOverlap}
use Rattle.hm_model.specs.Reports.{call_of, last_call, peer_of, verb_of}
use Rattle.hm_model.specs.Rules.{Allowed}
use Rattle.hm_model.specs.TransitActs.{is_placed, is_state}
use Rattle.hm_model.specs.Tree.{Node, node_of}
use Rattle.hm_single.specs.Calls.{Moves, MovesIn, NextIs, PlacedAreLive, closes_first}
use Rattle.hm_world_model.specs.Outside.{Outside}
use Rattle.hm_world_model.specs.Safe.{CallsTo, HasServed, IsKept, Runs}
use Rattle.hm_world_model.specs.World.{World, first, whole}

-- a server holds the region, or has yet to serve a call that opens it
abbrev pub MayHold : Past → Actor → Region → Server → Type 0
MayHold J actor region server =
    (holds actor region ≡ true)
    ⊎ ((p : ℕ) × (verb_of J p ≡ Some (verb_is.AssignRegion region)) × (peer_of J p ≡ Some (peer_is.Server server))
    × (HasServed actor region p → ⊥))

-- a call is reported to have left its region closed
abbrev pub IsShut : Past → ℕ → Type 0
IsShut J p = (report_of J p ≡ Some told_is.FailedOpen) ⊎ (report_of J p ≡ Some told_is.Closed)

-- of calls
pub record CallPoints (J : Past) (o : Outside) : Type 0 where
  -- each call about a region but the last: its server has served it, or is fenced, or doesn't run
  pub served : (p : ℕ) (region : Region) (server : Server) (actor : Actor)
      → CallsTo J p region server → last_call J region ≢ Some p → Runs J o server actor → HasServed actor region p
  -- and a server that was called never comes up again
  pub never_again : (p : ℕ) (region : Region) (server : Server) → CallsTo J p region server → Allowed J (entry_is.Up server) → ⊥
  -- what was sent is recorded
  pub sent : (call : Call) → IsIn call o.sent → call_of J call.id.0 ≡ Some call
  -- who is fenced in the journal is fenced
  pub fenced : (server : Server) → is_fenced J server ≡ true → o.storage.fenced server ≡ true

-- of servers that hold regions
pub record HolderPoints (J : Past) (o : Outside) : Type 0 where
  -- no server but the last call's holds the region, or has yet to open it
  pub alone : (region : Region) (server : Server) (actor : Actor) → Runs J o server actor → MayHold J actor region server
      → (p : ℕ) × (last_call J region ≡ Some p) × (peer_of J p ≡ Some (peer_is.Server server))
  -- nobody holds a region whose last call left it closed
  pub closed : (region : Region) (p : ℕ) → last_call J region ≡ Some p → IsShut J p
      → (server : Server) (actor : Actor) → Runs J o server actor → holds actor region ≡ false
  -- where a region may be held there is its place
  pub placed : (region : Region) (server : Server) (actor : Actor) → Runs J o server actor → MayHold J actor region server
      → is_at server (place_of J region) ≡ true

-- of transits: a region has one at work, and its place is what that one's next row says
pub record TransitPoints (J : Past) : Type 0 where
  pub single : (region : Region) (p q : ℕ) → Moves J p region → HoldsWith J [] p → Moves J q region → HoldsWith J [] q → p ≡ q
  pub rows : (region : Region)
      → ((is_state place_is.Opening (place_of J region) ≡ true) ↔ (NextIs J region 1 ⊎ NextIs J region 2))
      × ((is_state place_is.Closing (place_of J region) ≡ true) ↔ NextIs J region 4)

-- of rows: each region that is open, or being opened or closed, is live, and its table is there and isn't disabled; none is so once its
-- Unassign under an unfinished disabling of its table, split or merge has ended; and live regions of one table don't overlap
pub record RowPoints (J : Past) : Type 0 where
  pub live : PlacedAreLive J
  pub on : (region : Region) → is_placed (place_of J region) ≡ true
      → (state : TableState) × (version : ℕ) × (cat J (key_is.Table region.table) ≡ Some (row_is.Table state version)) × (state ≢ state_is.Disabled)
  pub closed : (root : ℕ) (top : Node) (request : Request) (first : ℕ) → node_of J root ≡ Some top → top.above ≡ []
      → top.args ≡ args_are.Root request first → closes_first request ≡ true → root_ended J root ≡ false
      → (p : ℕ) (node : Node) (region : Region) (to : Option Server) → MovesIn J root region p node
      → node.args ≡ args_are.Transit region goal_is.Unassign to → is_stopped (last_answer J p) ≡ true
      → is_placed (place_of J region) ≡ false
  pub apart : (table : TableName) → NoneOverlap (cat J) table

-- for one journal and what is outside
pub record Points (J : Past) (o : Outside) : Type 0 where
  pub calls : CallPoints J o
  pub holders : HolderPoints J o
  pub transits : TransitPoints J
  pub rows : RowPoints J

-- they hold for each length that a stop may leave
abbrev pub PointsHold : Type 0
PointsHold = (w : World) → IsKept w → (k : ℕ) → w.durable ≤ k → k ≤ length (whole w) → Points (first k (whole w)) w.outside

-- a region that a running server holds, which isn't fenced, is live
abbrev pub HeldAreLive : Type 0
HeldAreLive =
    (w : World) → IsKept w → (k : ℕ) → w.durable ≤ k → k ≤ length (whole w)
    → (region : Region) (server : Server) (actor : Actor) → Runs (first k (whole w)) w.outside server actor
    → holds actor region ≡ true → (range : KeyRange) × IsLiveWith (cat (first k (whole w))) region range
