-- That what is kept of a world stays so.
use Rattle.std.specs.Prelude.{◌≡◌, ℕ, ◌∷◌, Some, false}
use Rattle.hm_names.specs.Server.{Server}
use Rattle.hm_data.specs.declared.call.Call.{Call}
use Rattle.hm_data.specs.declared.call.Peer.{Peer}
use Rattle.hm_data.specs.declared.entry.Entry.{Entry}
use Rattle.hm_model.specs.Fleet.{came_up}
use Rattle.hm_model.specs.Journal.{Past}
use Rattle.hm_model.specs.Reports.{call_of}
use Rattle.hm_model.specs.Rules.{Allowed, IsLegal}
use Rattle.hm_world_model.specs.Events.{Event, happens}
use Rattle.hm_world_model.specs.Outside.{Outside, armed, delivered, died, started, with_sent}
use Rattle.hm_world_model.specs.Runs.{IsTrueReport, May}
use Rattle.hm_world_model.specs.Safe.{IsKept, Safe}
use Rattle.hm_world_model.specs.World.{World, opened}

-- a master that opens a journal keeps what a world keeps
abbrev pub OpenedIsKept : Type 0
OpenedIsKept = (J : Past) → IsLegal J → IsKept (opened J)

-- so does each event
abbrev pub EventsKeep : Type 0
EventsKeep = (w : World) (event : Event) → IsKept w → May w event → IsKept (happens w event)

-- for one journal: each allowed entry keeps what the journal and what is outside keep, a report where it was made
abbrev pub EntriesKeep : Type 0
EntriesKeep = (J : Past) (o : Outside) → Safe J o → (entry : Entry) → Allowed J entry → IsTrueReport o entry → Safe (entry ∷ J) o

-- so does each event outside: a recorded call is sent, or served, once more too; a server that never came up begins; one dies;
-- a peer is to refuse so often
abbrev pub OutsideKeeps : Type 0
OutsideKeeps =
    (J : Past) (o : Outside) → Safe J o
    → ((call : Call) → call_of J call.id.0 ≡ Some call → Safe J (with_sent o call) × Safe J (delivered o call))
    × ((server : Server) → came_up J server ≡ false → Safe J (started o server))
    × ((server : Server) → Safe J (died o server))
    × ((peer : Peer) (count : ℕ) → Safe J (armed o peer count))
