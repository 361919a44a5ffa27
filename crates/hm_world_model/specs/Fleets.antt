-- What lives on while a master is stopped, and which journal it fits.
use Rattle.std.specs.Prelude.{◌≡◌, ℕ, ◌≤◌, ◌↔◌, List, [], length, take, Option, None, Some, ◌⊎◌}
use Rattle.hm_data.specs.declared.call.Call.{Call}
use Rattle.hm_data.specs.declared.call.ReportMsg.{ReportMsg}
use Rattle.hm_data.specs.declared.entry.Entry.{Entry}
use Rattle.hm_model.specs.Journal.{Past, back}
use Rattle.hm_model.specs.Rebase.{rebase}
use Rattle.hm_world_model.specs.Events.{Ends, Stop, happens, stopped}
use Rattle.hm_world_model.specs.Outside.{Outside}
use Rattle.hm_world_model.specs.Runs.{HasFailedToRoll, May}
use Rattle.hm_world_model.specs.Safe.{IsKept}
use Rattle.hm_world_model.specs.World.{World, first, own, rebased_by, whole}

-- the journal that a fleet lived with, with its tail, and from which length on a stop may have left it; what travels; what is
-- outside; so many entries of the journal the master's own has replaced by their image; and so many a roll that failed may have
pub record Lived : Type 0 where
  pub past : Past
  pub durable : ℕ
  pub wire : List Call
  pub waiting : List ReportMsg
  pub outside : Outside
  pub rolled : Option ℕ
  pub failed : Option ℕ

-- a roll of so many entries may have failed, or none did
abbrev pub MayHaveFailed : World → Option ℕ → Type 0
MayHaveFailed w None = Unit {0}
MayHaveFailed w (Some r) = HasFailedToRoll w r

-- what lives on when a master stops, whose roll of so many entries failed, or none did
abbrev pub lived_of : World → Option ℕ → Lived
lived_of w failed = record {
  past = whole w;
  durable = w.durable;
  wire = w.wire;
  waiting = w.waiting;
  outside = w.outside;
  rolled = w.rolled;
  failed = failed;
}

-- a stop may have left the journal rebased so: as it was, or by the roll that failed
abbrev pub MayBeRebased : Lived → Option ℕ → Type 0
MayBeRebased lived rolled = (rolled ≡ lived.rolled) ⊎ ((r : ℕ) × (rolled ≡ Some r) × (lived.failed ≡ Some r))

-- a journal, as a master reads it, is what a stop may have left of the one that the fleet lived with, rebased so
abbrev pub Fits : Lived → Option ℕ → Past → Type 0
Fits lived rolled journal =
    (k : ℕ) × (lived.durable ≤ k) × (k ≤ length lived.past) × MayBeRebased lived rolled
    × (journal ≡ rebased_by rolled (first k lived.past))

-- a master that goes on with a fleet over the first k entries, rebased so
abbrev pub resumed : Lived → ℕ → Option ℕ → World
resumed lived k rolled = record {
  past = first k lived.past;
  tail = None;
  durable = k;
  taken = [];
  claimed = [];
  wire = lived.wire;
  waiting = lived.waiting;
  outside = lived.outside;
  halted = None;
  rolled = rolled;
}

-- entries, oldest first, of which the first are replaced by their image where they were rolled
abbrev pub read_as : Option ℕ → List Entry → List Entry
read_as None entries = entries
read_as (Some r) entries = back (rebase (back entries) r)

-- read from the oldest entry on, a journal fits exactly where it is the first entries, so many at least, of the other, rebased as
-- they may be
abbrev pub FitsTheFirst : Type 0
FitsTheFirst =
    (lived : Lived) (rolled : Option ℕ) (all journal : List Entry) → lived.past ≡ back all
    → Fits lived rolled (back journal)
    ↔ ((k : ℕ) × (lived.durable ≤ k) × (k ≤ length all) × MayBeRebased lived rolled × (journal ≡ read_as rolled (take k all)))

-- it fits, where a roll may have failed, exactly where a stop may leave it as the master's own
abbrev pub FitsAreStops : Type 0
FitsAreStops =
    (w : World) (rolled : Option ℕ) (journal : Past)
    → ((failed : Option ℕ) × MayHaveFailed w failed × Fits (lived_of w failed) rolled journal)
    ↔ ((k : ℕ) × May w (Ends (Stop k rolled)) × (own (happens w (Ends (Stop k rolled))) ≡ journal))

-- a master that goes on where it fits is the one after the stop, and the journal is its own
abbrev pub ResumedIsStopped : Type 0
ResumedIsStopped =
    (w : World) (failed rolled : Option ℕ) (journal : Past) (fits : Fits (lived_of w failed) rolled journal)
    → (resumed (lived_of w failed) fits.0 rolled ≡ stopped w fits.0 rolled)
    × (own (resumed (lived_of w failed) fits.0 rolled) ≡ journal)

-- so it keeps what is kept
abbrev pub ResumedIsKept : Type 0
ResumedIsKept =
    (w : World) (failed rolled : Option ℕ) (journal : Past) → IsKept w → MayHaveFailed w failed
    → (fits : Fits (lived_of w failed) rolled journal) → IsKept (resumed (lived_of w failed) fits.0 rolled)
