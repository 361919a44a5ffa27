-- Two masters over one log: one that was deposed, and does to what is outside what it doesn't know that it may no longer.
use Rattle.std.specs.Prelude.{◌≡◌, ℕ, ◌≤◌, List, [], ◌∷◌, drop, length, Option, Some, true}
use Rattle.hm_data.specs.declared.call.Call.{Call}
use Rattle.hm_data.specs.declared.call.ReportMsg.{ReportMsg}
use Rattle.hm_model.specs.Journal.{Past}
use Rattle.hm_model.specs.Reports.{call_of}
use Rattle.hm_world_model.specs.Events.{DeliverOld, Event, Miss, SendOld, Travels, happens, stopped}
use Rattle.hm_world_model.specs.Outside.{runs}
use Rattle.hm_world_model.specs.Runs.{May}
use Rattle.hm_world_model.specs.Safe.{IsKept}
use Rattle.hm_world_model.specs.Twice.{Twice}
use Rattle.hm_world_model.specs.World.{World, durable_part, first, whole}

-- a master that was deposed: its journal, with what it records in memory alone, and how many entries of it are durable, which are
-- no more from then on
pub record Deposed : Type 0 where
  pub past : Past
  pub durable : ℕ

-- what is durable of its journal
abbrev pub durable_of : Deposed → Past
durable_of old = first old.durable old.past

-- what is durable of it is a front of what is durable of the other
abbrev pub Precedes : Deposed → World → Type 0
Precedes old w = (n : ℕ) × (durable_of old ≡ drop n (durable_part w))

-- what it does to what is outside
pub data Meddling : Type 0 where
  Sends : (call : Call) → Meddling  -- again
  Delivers : (call : Call) → Meddling
  Takes : (report : ReportMsg) → Meddling  -- which it records or ignores, in memory

-- when it may: it sends what is durable of its own journal, to a peer that runs
abbrev pub MayMeddle : Deposed → World → Meddling → Type 0
MayMeddle old w (Sends call) = (call_of (durable_of old) call.id.0 ≡ Some call) × (runs w.outside call.peer ≡ true)
MayMeddle old w (Delivers call) = (rest : List Call) × (w.wire ≡ call ∷ rest)
MayMeddle old w (Takes report) = (rest : List ReportMsg) × (w.waiting ≡ report ∷ rest)

-- the event of the other's world that this is
abbrev pub event_of : Meddling → Event
event_of (Sends call) = Travels (SendOld call)
event_of (Delivers call) = Travels (DeliverOld call)
event_of (Takes report) = Travels (Miss report)

-- what happens to a pair: an event of the active master's world, or what the deposed one does
pub data PairEvent : Type 0 where
  Own : (event : Event) → PairEvent
  Old : (meddling : Meddling) → PairEvent

-- the event that each is to the active master's world
abbrev pub to_world : PairEvent → Event
to_world (Own event) = event
to_world (Old meddling) = event_of meddling

-- the active master's world after what happened to a pair, of which the newest stands first
abbrev pub pair_after : World → List PairEvent → World
pair_after w [] = w
pair_after w (event ∷ before) = happens (pair_after w before) (to_world event)

-- when each may happen to a pair
abbrev pub MayPair : Deposed → World → PairEvent → Type 0
MayPair old w (Own event) = May w event
MayPair old w (Old meddling) = MayMeddle old w meddling

-- each could come where it came
abbrev pub IsPairRun : Deposed → World → List PairEvent → Type 0
IsPairRun old w [] = Unit {0}
IsPairRun old w (event ∷ before) = IsPairRun old w before × MayPair old (pair_after w before) event

-- a master whose log was opened again by another one: what is durable of it is a front of what the other opened
abbrev pub TakenOver : Type 0
TakenOver =
    (w : World) (k : ℕ) (rolled : Option ℕ) → IsKept w → w.durable ≤ k → k ≤ length (whole w)
    → Precedes (record { past = w.past; durable = w.durable }) (stopped w k rolled)

-- from then on what is kept of the active master's world is kept, whatever both do: so nothing is held twice
abbrev pub PairsKeep : Type 0
PairsKeep =
    (old : Deposed) (w : World) → IsKept w → Precedes old w → (events : List PairEvent) → IsPairRun old w events
    → IsKept (pair_after w events) × Precedes old (pair_after w events)

abbrev pub PairsNeverTwice : Type 0
PairsNeverTwice =
    (old : Deposed) (w : World) → IsKept w → Precedes old w → (events : List PairEvent) → IsPairRun old w events
    → Twice (pair_after w events).past (pair_after w events).outside → ⊥
