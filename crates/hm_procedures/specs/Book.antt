-- What the book's fields hold.
use Rattle.std.specs.Prelude.{◌≡◌, ◌<◌, ℕ, ◌+◌, ◌-◌, ◌⊎◌, List, length, Option, Some, None, min, slice_get, vec_capacity, vec_len}
use Rattle.hm_names.specs.declared.pid.Pid.{Pid}
use Rattle.hm_data.specs.declared.entry.Entry.{Entry}
use Rattle.hm_data.specs.declared.entry.Entry.TheVariants as entry_is
use Rattle.hm_model.specs.Editions.{editions}
use Rattle.hm_model.specs.Journal.{Past}
use Rattle.hm_model.specs.Procedures.{offset}
use Rattle.hm_procedures.specs.Kept.{AreElders, IsKept}
use Rattle.hm_model.specs.OldRoots.{old_records}
use Rattle.hm_procedures.specs.declared.book.Book.{Book}

-- where numbers begin, the edition in force, and the roots of the base, as the journal says
pub record IsBased (past : Past) (book : Book) : Type 0 where
  pub begin : book.offset ≡ offset past
  pub trees : book.trees.from ≡ offset past
  pub siblings : book.siblings.from ≡ offset past
  pub edition : book.editions ≡ editions past
  pub shown : book.old_roots.items ≡ old_records past

-- the book is what the journal says
abbrev pub IsBook : Past → Book → Type 0
IsBook past book =
    IsKept past book.kept.items book.trees.roots book.unfinished × AreElders past book.siblings.roots × IsBased past book

-- what a base says and the edition stay
abbrev pub SameBase : Book → Book → Type 0
SameBase old new =
    (new.offset ≡ old.offset) × (new.editions ≡ old.editions) × (new.old_roots.items ≡ old.old_roots.items)
    × (new.trees.from ≡ old.trees.from) × (new.siblings.from ≡ old.siblings.from)

-- for how many procedures more there is room
abbrev pub spare_of : Book → ℕ
spare_of book =
    min (vec_capacity book.kept - vec_len book.kept) (min book.trees.spare (min book.siblings.spare (vec_capacity book.old_roots - vec_len book.old_roots)))

-- how much memory there is
abbrev pub room_of : Book → ℕ
room_of book = vec_capacity book.kept + book.trees.room + book.siblings.room + vec_capacity book.old_roots

-- the root of a new procedure that has a parent is there
abbrev pub HasRoot : ℕ → List Pid → Option (Pid × Pid) → Type 0
HasRoot from roots None = Unit {0}
HasRoot from roots (Some up) = (let root = up.1 in from < root.0) × (let root = up.1 in slice_get roots (root.0 - from - 1) ≡ Some root)

-- the eldest sibling of a new procedure is there, or it is the new one
abbrev pub HasElder : ℕ → List Pid → Option Pid → Type 0
HasElder from elders None = Unit {0}
HasElder from elders (Some eldest) =
    (from < eldest.0) × ((eldest.0 ≡ from + length elders + 1) ⊎ (slice_get elders (eldest.0 - from - 1) ≡ Some eldest))

-- the entry makes a root of its own
abbrev pub IsRooting : Entry → Type 0
IsRooting (entry_is.Submit nonce request) = Unit {0}
IsRooting (entry_is.Down server) = Unit {0}
IsRooting entry = ⊥

-- the entry undoes a step
abbrev pub IsUndo : Entry → Type 0
IsUndo (entry_is.Undo pid row out) = Unit {0}
IsUndo entry = ⊥

-- the entry is the report of a call
abbrev pub IsReport : Entry → Type 0
IsReport (entry_is.Report call told) = Unit {0}
IsReport entry = ⊥

-- the entry adopts sheets
abbrev pub IsAdopt : Entry → Type 0
IsAdopt (entry_is.Adopt sheets) = Unit {0}
IsAdopt entry = ⊥

-- the entry is an abort
abbrev pub IsAbort : Entry → Type 0
IsAbort (entry_is.Abort pid) = Unit {0}
IsAbort entry = ⊥
