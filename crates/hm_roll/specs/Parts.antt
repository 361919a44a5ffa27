-- Parts of a base and the frames that spell them.
use Rattle.std.specs.Prelude.{◌≡◌, ◌≤◌, ℕ, List, length, map, take, slice_get, Some, Result, Ok, Err, All}
use Rattle.hm_data.specs.declared.entry.Entry.{Entry}
use Rattle.hm_data.specs.declared.entry.Entry.TheVariants as entry_is
use Rattle.hm_data.specs.declared.part.Part.{Part}
use Rattle.hm_entry.specs.Fits.{PartFits}
use Rattle.hm_entry.specs.Reading.{all_of}
use Rattle.hm_entry.specs.Spelling.{entry as spelling}
use Rattle.hm_entry.specs.declared.fault.EntryFault.{EntryFault}
use Rattle.hm_entry.specs.declared.fault.EntryFault.TheVariants as entry_fault_is
use Rattle.hm_roll.specs.declared.why.PartsWhy.{PartsWhy}
use Rattle.hm_roll.specs.declared.why.PartsWhy.TheVariants as why_is

-- the frame of a part: the spelling of its entry
abbrev pub frame_of : Part → List ℕ
frame_of part = spelling (entry_is.Base part)

-- the frames of parts, one each, in order
abbrev pub frames_of : List Part → List (List ℕ)
frames_of parts = map frame_of parts

-- the entry of a part isn't too long for a frame
abbrev pub IsShort : Part → Type 0
IsShort part = length (frame_of part) ≤ 65536

-- the frames spell these parts, one each, in order
pub record Spells (frames : List (List ℕ)) (parts : List Part) : Type 0 where
  pub are : frames_of parts ≡ frames
  pub fit : All PartFits parts

-- the frame of this number spells this part
pub record SpellsAt (frames : List (List ℕ)) (number : ℕ) (part : Part) : Type 0 where
  pub there : slice_get frames number ≡ Some (frame_of part)
  pub fits : PartFits part

-- an entry that is no part of a base
abbrev pub IsOther : Entry → Type 0
IsOther entry = (part : Part) → entry ≡ entry_is.Base part → ⊥

-- Where a frame, read so, shows that it spells no part: at the byte from which on it spells no entry, or, where it spells
-- an entry that is none of a base, at its first byte, which tells the kind of the entry.
abbrev pub NoPartAt : Result Entry EntryFault → ℕ → Type 0
NoPartAt (Ok entry) at = IsOther entry × (at ≡ 0)
NoPartAt (Err (entry_fault_is.Short place)) at = place ≡ at
NoPartAt (Err (entry_fault_is.Field place)) at = place ≡ at
NoPartAt (Err (entry_fault_is.Rest place)) at = place ≡ at
NoPartAt (Err entry_fault_is.Memory) at = ⊥

-- the frame of this number spells no part, which this byte of it shows, and each before it spells one
pub record IsFirstWrong (frames : List (List ℕ)) (number at : ℕ) : Type 0 where
  pub parts : List Part
  pub before : Spells (take number frames) parts
  pub frame : List ℕ
  pub there : slice_get frames number ≡ Some frame
  pub none : (part : Part) → PartFits part → frame ≡ frame_of part → ⊥
  pub shown : NoPartAt (all_of frame) at

-- why frames aren't read as parts: one spells none, or memory ran out
abbrev pub IsNoImage : List (List ℕ) → PartsWhy → Type 0
IsNoImage frames (why_is.Entry number at) = IsFirstWrong frames number at
IsNoImage frames why_is.Memory = Unit {0}

-- what is answered where reading the frame of this number failed so
abbrev pub because : ℕ → EntryFault → PartsWhy
because number (entry_fault_is.Short place) = why_is.Entry number place
because number (entry_fault_is.Field place) = why_is.Entry number place
because number (entry_fault_is.Rest place) = why_is.Entry number place
because number entry_fault_is.Memory = why_is.Memory

-- why no part was read from the frame of this number: it spells none, or memory ran out
abbrev pub IsNotRead : List (List ℕ) → ℕ → PartsWhy → Type 0
IsNotRead frames number (why_is.Entry wrong at) = (wrong ≡ number) × ((frame : List ℕ) × (slice_get frames number ≡ Some frame) × NoPartAt (all_of frame) at)
IsNotRead frames number why_is.Memory = Unit {0}
