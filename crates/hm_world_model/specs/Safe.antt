-- What holds between a journal and what is outside.
use Rattle.std.specs.Prelude.{◌≡◌, ◌≢◌, ℕ, ◌+◌, ◌<◌, ◌≤◌, ◌∷◌, length, drop, Some, None, true, false, ◌⊎◌}
use Rattle.hm_names.specs.Region.{Region}
use Rattle.hm_names.specs.Server.{Server}
use Rattle.hm_names.specs.declared.pid.Pid.{Pid}
use Rattle.hm_data.specs.declared.call.Call.{Call}
use Rattle.hm_data.specs.declared.call.Peer.TheVariants as peer_is
use Rattle.hm_data.specs.declared.call.ReportMsg.{ReportMsg}
use Rattle.hm_data.specs.declared.call.Told.{Told}
use Rattle.hm_data.specs.declared.call.Told.TheVariants as told_is
use Rattle.hm_data.specs.declared.call.Verb.{Verb}
use Rattle.hm_data.specs.declared.call.Verb.TheVariants as verb_is
use Rattle.hm_data.specs.declared.entry.Entry.{Entry}
use Rattle.hm_model.specs.Actors.{Actor, Served, holds}
use Rattle.hm_model.specs.Answers.{report_of}
use Rattle.hm_model.specs.Base.{HasNoHalfBase}
use Rattle.hm_model.specs.Fleet.{is_fenced}
use Rattle.hm_model.specs.Journal.{Past}
use Rattle.hm_model.specs.Laws.{is_part}
use Rattle.hm_model.specs.Locks.{IsIn}
use Rattle.hm_model.specs.Reports.{call_of, fits_verb, last_call, peer_of, region_called, verb_of}
use Rattle.hm_model.specs.Rules.{FitsCall, IsLegal}
use Rattle.hm_model.specs.Single.{IsBasedAt}
use Rattle.hm_world_model.specs.Claims.{IsApart}
use Rattle.hm_world_model.specs.Outside.{Outside}
use Rattle.hm_world_model.specs.Runs.{IsRolledIn}
use Rattle.hm_world_model.specs.World.{LogFault, World, claimed_pids, durable_part, whole}

-- a procedure called the server about the region
abbrev pub CallsTo : Past → ℕ → Region → Server → Type 0
CallsTo J p region server =
    (verb : Verb) × (verb_of J p ≡ Some verb) × (region_called verb ≡ Some region)
    × (peer_of J p ≡ Some (peer_is.Server server))

-- a server runs, and isn't fenced in the journal
abbrev pub Runs : Past → Outside → Server → Actor → Type 0
Runs J o server actor = (o.actors server ≡ Some actor) × (is_fenced J server ≡ false)

-- a server has served a call about the region, or a later one
abbrev pub HasServed : Actor → Region → ℕ → Type 0
HasServed actor region p = (last : Served) × (actor.last region ≡ Some last) × (p ≤ last.id.0)

-- where the server runs, it served the call with this answer, or has gone on to later ones
abbrev pub ToldBy : Outside → ℕ → Told → Region → Server → Type 0
ToldBy o p told region server =
    (actor : Actor) → o.actors server ≡ Some actor
    → (last : Served) × (actor.last region ≡ Some last) × ((p < last.id.0) ⊎ ((p ≡ last.id.0) × (told ≡ last.told)))

-- an answer is of a recorded call, fits it, and was given by whom was called
pub record Made (J : Past) (o : Outside) (p : ℕ) (told : Told) : Type 0 where
  pub verb : Verb
  pub called : verb_of J p ≡ Some verb
  pub fits : fits_verb verb told ≡ true
  pub told_by : (region : Region) (server : Server) → CallsTo J p region server → ToldBy o p told region server
  pub fenced : (server : Server) → verb ≡ verb_is.Fence server → o.storage.fenced server ≡ true

-- the last call about the region is this
abbrev pub IsLast : Past → Region → ℕ → Verb → Server → Type 0
IsLast J region p verb server =
    (last_call J region ≡ Some p) × (verb_of J p ≡ Some verb) × (peer_of J p ≡ Some (peer_is.Server server))

-- who holds a region opened it by its last call, or by one whose region it is last asked to close
abbrev pub HeldBy : Past → Actor → Region → Server → Type 0
HeldBy J actor region server =
    (last : Served) × (actor.last region ≡ Some last) × (last.told ≡ told_is.Opened)
    × (IsLast J region last.id.0 (verb_is.AssignRegion region) server
    ⊎ ((q : ℕ) × (last.id.0 < q) × IsLast J region q (verb_is.CloseRegion region) server))

-- what calls and answers keep: what was sent is recorded; what was made, what is recorded as told, and what the storage keeps
-- are answers of whom was called
pub record CallsSafe (J : Past) (o : Outside) : Type 0 where
  pub sent_is : (call : Call) → IsIn call o.sent → call_of J call.id.0 ≡ Some call
  pub made_is : (report : ReportMsg) → IsIn report o.reports
      → Made J o report.call.0 report.told × (peer_of J report.call.0 ≡ Some report.from)
  pub recorded : (p : ℕ) (told : Told) → report_of J p ≡ Some told → Made J o p told
  pub stored : (id : Pid) (told : Told) → o.storage.answer id ≡ Some told
      → Made J o id.0 told × (peer_of J id.0 ≡ Some peer_is.Storage)

-- what servers keep: what one served it was called for here, and its answer fits; what it opened last it holds; of each region it
-- served all calls but the last, or is fenced, and holds it by its last call alone; and none runs at which a whole base has a
-- region open
pub record ServersSafe (J : Past) (o : Outside) : Type 0 where
  pub named : (server : Server) (actor : Actor) → o.actors server ≡ Some actor → actor.name ≡ server
  pub served_is : (server : Server) (actor : Actor) (region : Region) (last : Served)
      → o.actors server ≡ Some actor → actor.last region ≡ Some last
      → CallsTo J last.id.0 region server × FitsCall J last.id.0 last.told
  pub opened_is : (server : Server) (actor : Actor) (region : Region) (last : Served)
      → o.actors server ≡ Some actor → actor.last region ≡ Some last → last.told ≡ told_is.Opened → last.holds ≡ true
  pub done : (p : ℕ) (region : Region) (server : Server) (actor : Actor)
      → CallsTo J p region server → Runs J o server actor → last_call J region ≢ Some p → HasServed actor region p
  pub unbased : HasNoHalfBase J → (region : Region) (server : Server) (actor : Actor)
      → o.actors server ≡ Some actor → IsBasedAt J region server → ⊥
  pub held : (region : Region) (server : Server) (actor : Actor)
      → Runs J o server actor → holds actor region ≡ true → HeldBy J actor region server

-- what a journal and what is outside keep
pub record Safe (J : Past) (o : Outside) : Type 0 where
  pub legal : IsLegal J
  pub calls : CallsSafe J o
  pub servers : ServersSafe J o
  pub fences_are : (server : Server) → is_fenced J server ≡ true → o.storage.fenced server ≡ true

-- no entry behind the first d of a journal is a part of a base
abbrev pub IsPlainBehind : ℕ → Past → Type 0
IsPlainBehind d J = (n : ℕ) (entry : Entry) (before : Past) → drop n J ≡ entry ∷ before → d ≤ length before → is_part entry ≡ false

-- a world keeps it for each length of its journal, with the tail, that a stop may leave. Only one whose log failed has a tail;
-- what is on the wire was sent, and what waits was reported; no two that hold conflict; what isn't durable is no part of a base;
-- and where the master's own journal was rolled, it was so within what is durable.
pub record IsKept (w : World) : Type 0 where
  pub within : w.durable ≤ length w.past
  pub tailless : w.halted ≢ Some LogFault → w.tail ≡ None
  pub wire_is : (call : Call) → IsIn call w.wire → IsIn call w.outside.sent
  pub waiting_is : (report : ReportMsg) → IsIn report w.waiting → IsIn report w.outside.reports
  pub apart : IsApart w.past w.taken (claimed_pids w)
  pub tails : (n : ℕ) → n + w.durable ≤ length (whole w) → Safe (drop n (whole w)) w.outside
  pub plain : IsPlainBehind w.durable (whole w)
  pub rolls : (r : ℕ) → w.rolled ≡ Some r → IsRolledIn (durable_part w) r
