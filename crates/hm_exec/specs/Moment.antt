-- What an executor has, and what recording an entry does to it.
use Rattle.std.specs.Prelude.{◌≡◌, ℕ, List, Some, None, Ok, Err}
use Rattle.hm_data.specs.declared.entry.Entry.{Entry}
use Rattle.hm_hall.specs.Recording.{Accepts, Recording, Records, past_in}
use Rattle.hm_hall.specs.declared.fault.Halt.{Halt}
use Rattle.hm_hall.specs.declared.fault.HallFault.{HallFault}
use Rattle.hm_hall.specs.declared.fault.HallFault.TheVariants as fault_is
use Rattle.hm_hall.specs.declared.fault.RecordFault.TheVariants as record_is
use Rattle.hm_model.specs.Journal.{Past}
use Rattle.hm_model.specs.Rules.{Allowed}

-- what the recorder keeps, and who is claimed
pub record Moment : Type 0 where
  pub kept : Recording
  pub claimed : List ℕ

-- the journal, back from its newest entry
abbrev pub past_of : Moment → Past
past_of at = past_in at.kept

-- nothing halted it
abbrev pub IsGoing : Moment → Type 0
IsGoing at = let kept = at.kept in kept.halted ≡ None

-- the same claims, with what a recorder keeps
abbrev pub with_kept : Moment → Recording → Moment
with_kept at kept = record at { kept = kept }

-- An entry that may follow was recorded: it stands at the end, and nothing else changed.
abbrev pub IsAdded : Moment → Entry → Moment → Type 0
IsAdded old entry new =
    IsGoing old × Allowed (past_of old) entry
    × ((number : ℕ) × Records old.kept entry (Ok number) new.kept) × (new.claimed ≡ old.claimed)

-- Why an entry that may follow wasn't recorded, and what is left: the hard mark and a fault of the log halt the recorder; want of
-- memory, which comes only for an entry that would have been recorded, leaves all as it was.
abbrev pub IsFault : Moment → Entry → HallFault → Moment → Type 0
IsFault old entry fault_is.LogFault new = Records old.kept entry (Err record_is.LogFault) new.kept × (new.claimed ≡ old.claimed)
IsFault old entry (fault_is.JournalFull bytes) new = Records old.kept entry (Err (record_is.JournalFull bytes)) new.kept × (new.claimed ≡ old.claimed)
IsFault old entry (fault_is.Halted why) new = ⊥
IsFault old entry fault_is.Memory new = Accepts old.kept entry × (new ≡ old)

-- an earlier fault is answered before all else, and changes nothing
abbrev pub IsHalted : Moment → Halt → Moment → Type 0
IsHalted old why new = let kept = old.kept in (kept.halted ≡ Some why) × (new ≡ old)

-- the faults of a call that would record this entry
abbrev pub FaultsAt : Moment → Entry → HallFault → Moment → Type 0
FaultsAt old entry (fault_is.Halted why) new = IsHalted old why new
FaultsAt old entry fault new = IsGoing old × Allowed (past_of old) entry × IsFault old entry fault new
