-- What a list of recorded entries keeps.
use Rattle.std.specs.Prelude.{◌≡◌, ℕ, ◌<◌, List, [], ◌∷◌, Option, Some, None, false, All, IfSome}
use Rattle.hm_data.specs.declared.entry.Entry.{Entry}
use Rattle.hm_data.specs.declared.entry.Entry.TheVariants as entry_is
use Rattle.hm_data.specs.declared.sheet.Sheet.{Sheet}
use Rattle.hm_entry.specs.Fits.{EntryFits}
use Rattle.hm_model.specs.Laws.{is_part}
use Rattle.hm_hall.specs.Recording.{Accepts, Recording, behind, bytes_of}
use Rattle.hm_hall.specs.declared.fault.Halt.{Halt}
use Rattle.hm_hall.specs.declared.fault.Halt.TheVariants as halt_is

-- how often the list has failed: that halts it
abbrev pub faults_in : Option Halt → ℕ
faults_in None = 0
faults_in (Some halt_is.LogFault) = 1
faults_in (Some (halt_is.JournalFull bytes)) = 0

-- a copy of the entry that is ready, which is accepted and no part of a base, and for which there is room
pub record IsCopy (kept : Recording) (used room : ℕ) (copy : Entry) : Type 0 where
  pub next_is : (let k = kept in k.next ≡ Some copy)
  pub accepted : Accepts kept copy
  pub other : is_part copy ≡ false
  pub fits : EntryFits copy
  pub has_room : used < room

-- where there is no copy the entry that is ready is refused
abbrev pub IsRefused : Recording → Option Entry → Type 0
IsRefused kept copy = copy ≡ None → (entry : Entry) → kept.next ≡ Some entry → Accepts kept entry → ⊥

-- each entry has a spelling, no base stands before them, the bytes are those of a log of the entries, and the entry that is ready is
-- copied or refused
pub record IsWellKept (kept : Recording) (copy : Option Entry) (bytes used room : ℕ) : Type 0 where
  pub fits : (let k = kept in All EntryFits k.entries)
  pub baseless : (let k = kept in behind k.entries ≡ k.entries)
  pub sized : (let k = kept in bytes ≡ bytes_of k.entries)
  pub copied : IfSome copy (IsCopy kept used room)
  pub refused : IsRefused kept copy

-- this is the one entry that was recorded, and nothing halted that
abbrev pub IsKeptAlone : Entry → Recording → Type 0
IsKeptAlone entry kept = (kept.entries ≡ entry ∷ []) × (kept.halted ≡ None)

-- a journal that begins with these sheets, and that nothing halted
abbrev pub IsBegun : List Sheet → Recording → Type 0
IsBegun sheets kept = IsKeptAlone (entry_is.Start sheets) kept
