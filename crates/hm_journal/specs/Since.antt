-- What a journal has done to its disk since it was opened.
use Rattle.std.specs.Prelude.{◌≡◌, ◌≢◌, ◌⊎◌, ℕ, ◌+◌, ◌-◌, ◌*◌, ◌^◌, ◌≤◌, min, List, [], ◌∷◌, ◌++◌, length, Option, Some, None}
use Rattle.hm_ports.specs.Faults.{Rose}
use Rattle.hm_disk.specs.Called.{IsCalled}
use Rattle.hm_disk.specs.Disk.{LeavesOnly}
use Rattle.hm_disk.specs.declared.disk.Disk as Disk
use Rattle.hm_log.specs.Format.{BeforeOrAfter, Reads}
use Rattle.hm_data.specs.declared.entry.Entry.{Entry}
use Rattle.hm_entry.specs.Spelling.{entry as spelling}
use Rattle.hm_hall.specs.Recording.{Recording}
use Rattle.hm_hall.specs.declared.fault.Halt.{Halt}
use Rattle.hm_hall.specs.declared.fault.Halt.TheVariants as halt_is
use Rattle.hm_journal.specs.Opened.{Opened}
use Rattle.hm_journal.specs.Stored.{frames_of}

-- the entries, and the one whose recording failed
abbrev pub with_tail : List Entry → Option Entry → List Entry
with_tail entries None = entries
with_tail entries (Some entry) = entries ++ entry ∷ []

-- the bytes are a log of the first of these entries, of so many at least
pub record IsFront (least : ℕ) (entries : List Entry) (bytes : List ℕ) : Type 0 where
  pub front : List Entry
  pub rest : List Entry
  pub parts : entries ≡ front ++ rest
  pub enough : least ≤ length front
  pub reads : Reads bytes (frames_of front)

-- Each image since holds a front of the journal with its tail. Each entry since made two changes, and the tail two at
-- most. The faults never fell, rose where the log failed, and else stayed as they were.
pub record Since {D Setting : Type 0} (disk : Disk.Ghosts D Setting) (opened : Opened D) (now : D) (entries : List Entry) (tail : Option Entry) (halted : Option Halt) : Type 0 where
  pub grown : opened.count ≤ length entries
  pub leaves : disk.tells → LeavesOnly disk.moment disk.left_since opened.disk now (IsFront opened.count (with_tail entries tail))
  pub called : IsCalled disk (2 * (length (with_tail entries tail) - opened.count)) opened.disk now
  pub least : min (disk.changes opened.disk + 2 * (length entries - opened.count)) (2 ^ 64 - 1) ≤ disk.changes now
  pub failed : halted ≡ Some halt_is.LogFault → Rose (disk.faults opened.disk) (disk.faults now)
  pub unfailed : halted ≢ Some halt_is.LogFault → disk.faults now ≡ disk.faults opened.disk

-- what the recording of a first entry did to the disk where it failed
pub record Began {D Setting : Type 0} (disk : Disk.Ghosts D Setting) (entry : Entry) (old new : D) : Type 0 where
  pub leaves : disk.tells → LeavesOnly disk.moment disk.left_since old new (BeforeOrAfter [] (spelling entry))
  pub called : IsCalled disk 2 old new

-- nothing is recorded, and the recording of this entry failed or wasn't tried
abbrev pub IsUnbegun : Entry → Recording → Type 0
IsUnbegun entry kept = (kept.entries ≡ []) × ((kept.tail ≡ None) ⊎ (kept.tail ≡ Some entry))
