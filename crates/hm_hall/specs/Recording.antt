-- What a recorder has recorded, and what recording one entry more does.
use Rattle.std.specs.Prelude.{◌≡◌, ℕ, ◌+◌, ◌<◌, ◌≤◌, List, [], ◌∷◌, ◌++◌, length, sum_by, All, Option, Some, None, Result, Ok, Err, if◌then◌else◌, nat_le}
use Rattle.hm_data.specs.declared.entry.Entry.{Entry}
use Rattle.hm_data.specs.declared.entry.Entry.TheVariants as entry_is
use Rattle.hm_model.specs.Journal.{Past, back}
use Rattle.hm_entry.specs.Fits.{EntryFits, EntryIsSpelled}
use Rattle.hm_entry.specs.Spelling.{entry as spelling}
use Rattle.hm_hall.specs.declared.fault.Halt.{Halt}
use Rattle.hm_hall.specs.declared.fault.Halt.TheVariants as halt_is
use Rattle.hm_hall.specs.declared.fault.RecordFault.{RecordFault}
use Rattle.hm_hall.specs.declared.fault.RecordFault.TheVariants as fault_is

-- the recorded entries, first the parts of a base where there is one, the one that is ready to be recorded, the one whose recording
-- failed, what halted the recorder, and its two marks
pub record Recording : Type 0 where
  pub entries : List Entry
  pub next : Option Entry
  pub tail : Option Entry
  pub halted : Option Halt
  pub soft : ℕ
  pub hard : ℕ

-- the entry that is ready
abbrev pub next_of : Recording → Option Entry
next_of kept = kept.next

-- what halted it
abbrev pub halt_of : Recording → Option Halt
halt_of kept = kept.halted

-- the entries that it recorded
abbrev pub entries_of : Recording → List Entry
entries_of kept = kept.entries

-- the journal, back from its newest entry
abbrev pub past_in : Recording → Past
past_in kept = back kept.entries

-- the parts of the base with which these entries begin
abbrev pub parts_of : List Entry → List Entry
parts_of [] = []
parts_of (entry_is.Base part ∷ entries) = entry_is.Base part ∷ parts_of entries
parts_of (entry ∷ entries) = []

-- the entries behind that base, from which places count; without a base all
abbrev pub behind : List Entry → List Entry
behind [] = []
behind (entry_is.Base part ∷ entries) = behind entries
behind (entry ∷ entries) = entry ∷ entries

-- each entry that it recorded has a spelling
abbrev pub AllFit : Recording → Type 0
AllFit kept = All EntryFits kept.entries

-- the same, with this entry ready
abbrev pub with_next : Recording → Entry → Recording
with_next kept entry = record kept { next = Some entry }

-- the bytes of a log of these entries: eleven, and for each 5 more than its spelling has
abbrev pub bytes_of : List Entry → ℕ
bytes_of entries = 11 + sum_by (λ entry. length (spelling entry) + 5) entries

-- after these entries this one would pass the hard mark
abbrev pub Passes : ℕ → List Entry → Entry → Type 0
Passes hard entries entry = hard < bytes_of entries + length (spelling entry) + 5

-- the recorder isn't halted, and the entry doesn't pass the hard mark
abbrev pub Accepts : Recording → Entry → Type 0
Accepts kept entry = (kept.halted ≡ None) × (Passes kept.hard kept.entries entry → ⊥)

-- the bytes, where they have reached the soft mark
abbrev pub full_at : Recording → Option ℕ
full_at kept = if nat_le kept.soft (bytes_of kept.entries) then Some (bytes_of kept.entries) else None

-- an entry that can be recorded: it has a spelling, which fits a frame
pub record CanBeRecorded (entry : Entry) : Type 0 where
  pub spelled : EntryIsSpelled entry
  pub short : length (spelling entry) ≤ 65536

-- What recording an entry answers, its place behind the base, and what it leaves. Whether the recorder is halted is judged first,
-- then whether the entry passes the hard mark; what is left is a fault of the log.
abbrev pub Records : Recording → Entry → Result ℕ RecordFault → Recording → Type 0
Records old entry (Ok number) new =
    (old.halted ≡ None) × (Passes old.hard old.entries entry → ⊥) × (number ≡ length (behind old.entries)) × (new ≡ record old { entries = old.entries ++ entry ∷ []; next = None })
Records old entry (Err (fault_is.Halted why)) new = (old.halted ≡ Some why) × (new ≡ old)
Records old entry (Err (fault_is.JournalFull bytes)) new =
    (old.halted ≡ None) × Passes old.hard old.entries entry × (bytes ≡ bytes_of old.entries) × (new ≡ record old { next = None; halted = Some (halt_is.JournalFull bytes) })
Records old entry (Err fault_is.LogFault) new =
    (old.halted ≡ None) × (Passes old.hard old.entries entry → ⊥) × (new ≡ record old { next = None; tail = Some entry; halted = Some halt_is.LogFault })
