-- What callers see of a journal, and what is kept of its fields.
use Rattle.std.specs.Prelude.{◌≡◌, ◌≢◌, ℕ, ◌+◌, ◌^◌, ◌<◌, ◌≤◌, Bool, false, List, [], ◌∷◌, length, Option, Some, None, Ok, Err, All, IfSome, MatchOption, ◌⊎◌}
use Rattle.std.specs.Global.{Vec}
use Rattle.hm_data.specs.declared.entry.Entry.{Entry}
use Rattle.hm_entry.specs.Fits.{EntryFits}
use Rattle.hm_entry.specs.Reading.{all_of}
use Rattle.hm_entry.specs.Spelling.{entry as spelling}
use Rattle.hm_model.specs.Image.{counted}
use Rattle.hm_model.specs.Journal.{back}
use Rattle.hm_model.specs.Laws.{is_part}
use Rattle.hm_hall.specs.Recording.{Recording, Accepts, Passes, behind, bytes_of, parts_of}
use Rattle.hm_hall.specs.declared.fault.Halt.{Halt}
use Rattle.hm_hall.specs.declared.fault.Halt.TheVariants as halt_is
use Rattle.hm_journal.specs.Opened.{Opened}
use Rattle.hm_journal.specs.Stored.{AllStored, frames_of}
use Rattle.hm_journal.specs.declared.limits.Limits.{Limits}
use Rattle.hm_journal.specs.declared.next.Next.{Next}

-- a journal: its disk, how it was opened, what is recorded, and how many entries fit in the memory that it has
pub record JournalView (D : Type 0) : Type 0 where
  pub disk : D
  pub opened : Opened D
  pub kept : Recording
  pub room : ℕ

-- the entry that bytes spell
abbrev pub entry_in : List ℕ → Option Entry
entry_in bytes = elim (all_of bytes) as (λ r. Option Entry) [ Ok entry ↦ Some entry | Err fault ↦ None ]

-- the entry that these bytes spell, where there are any
abbrev pub entry_of : Option (Vec ℕ) → Option Entry
entry_of None = None
entry_of (Some bytes) = entry_in bytes.items

-- the entry that is ready
abbrev pub ready_of : Option Next → Option Entry
ready_of None = None
ready_of (Some next) = Some next.entry.disk

-- the entries that frames spell
abbrev pub entries_in : List (Vec ℕ) → List Entry
entries_in [] = []
entries_in (frame ∷ frames) = elim (all_of frame.items) as (λ r. List Entry) [ Ok entry ↦ entry ∷ entries_in frames | Err fault ↦ entries_in frames ]

-- what is recorded, as the fields have it
abbrev pub kept_of : List (Vec ℕ) → Option Next → Option (Vec ℕ) → Option Halt → Limits → Recording
kept_of frames next tail halted limits =
    record { entries = entries_in frames; next = ready_of next; tail = entry_of tail; halted = halted; soft = limits.soft; hard = limits.hard }

-- bytes that spell an entry
abbrev pub IsSpelling : List ℕ → Type 0
IsSpelling bytes = (entry : Entry) × (bytes ≡ spelling entry) × EntryFits entry

-- a frame that spells the entry, which is no part of a base, and that a log takes, and for which there is room
pub record IsFrameOf (kept : Recording) (entry : Entry) (used room : ℕ) (frame : List ℕ) : Type 0 where
  pub accepted : Accepts kept entry
  pub other : is_part entry ≡ false
  pub spells : frame ≡ spelling entry
  pub fits : EntryFits entry
  pub short : length frame ≤ 65536
  pub small : bytes_of kept.entries + length frame + 5 < 2 ^ 64
  pub has_room : used < room

-- an entry that is ready: it has a frame where it will be accepted, and none where it will be refused
abbrev pub IsReady : Recording → ℕ → ℕ → Next → Type 0
IsReady kept used room next = MatchOption next.frame
    ((kept.halted ≢ None) ⊎ Passes kept.hard kept.entries next.entry.disk)
    (λ frame. IsFrameOf kept next.entry.disk used room frame.items)

-- so many of these entries are parts of a base, and that base stands for so many
pub record IsOrigin (parts based : ℕ) (entries : List Entry) : Type 0 where
  pub parts_are : parts ≡ length (parts_of entries)
  pub counted_is : counted (back entries) ≡ based + length (behind entries)
  pub few : based < 2 ^ 63

-- What is kept of a journal's fields: the frames spell the entries, the log has these frames and this size while it isn't
-- stalled, and each image of the disk is a log of the entries.
pub record IsWellKept (tells : Type 0) (image : List ℕ → Type 0) (logged : List (List ℕ)) (size : ℕ) (stalled : Bool) (next : Option Next) (tail : Option (Vec ℕ)) (bytes parts based used room : ℕ) (kept : Recording) : Type 0 where
  pub fits : All EntryFits kept.entries
  pub origin : IsOrigin parts based kept.entries
  pub count_is : used ≡ length kept.entries
  pub next_is : IfSome next (IsReady kept used room)
  pub tail_is : IfSome tail (λ frame. IsSpelling frame.items)
  pub sized : bytes ≡ bytes_of kept.entries
  pub live : kept.halted ≢ Some halt_is.LogFault → stalled ≡ false
  pub failed : kept.tail ≢ None → kept.halted ≡ Some halt_is.LogFault
  pub size_is : stalled ≡ false → size ≡ bytes
  pub logged_is : tells → stalled ≡ false → logged ≡ frames_of kept.entries
  pub stored : tells → AllStored image kept
