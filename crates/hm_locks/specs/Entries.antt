-- The pages of a lock book, and what changes there.
use Rattle.std.specs.Prelude.{◌≡◌, ℕ, ◌+◌, ◌-◌, ◌≤◌, ◌^◌, List, length, min, Bool, vec_len, vec_capacity}
use Rattle.hm_locks.specs.declared.entry.Entry.{Entry}
use Rattle.hm_locks.specs.declared.pages.Pages.{Pages}
use Rattle.hm_locks.specs.Book.{Row}
use Rattle.hm_locks.specs.Kept.{AreListed, IsKept, rows_in}

-- an entry that holds, or doesn't
abbrev pub with_holds : Bool → Entry → Entry
with_holds holds entry = record entry { holds = holds }

-- the pages are kept
abbrev pub AreKept : Pages → Type 0
AreKept pages = IsKept pages.places.pairs pages.entries.items pages.wants.items pages.desks.numbers pages.lists.lists pages.lists.spare

-- the rows of the procedures on the pages
abbrev pub rows_of : Pages → List Row
rows_of pages = rows_in pages.entries.items

-- for how much there is memory
abbrev pub room_of : Pages → ℕ
room_of pages =
    pages.places.room + vec_capacity pages.entries + vec_capacity pages.wants + pages.desks.room + pages.lists.room + pages.held.room

-- the same procedures with the same wants
pub record IsSameBook (old new : Pages) : Type 0 where
  pub entries : new.entries.items ≡ old.entries.items
  pub wants : new.wants.items ≡ old.wants.items

-- for how many entries more there is room: for themselves and their nodes
abbrev pub spare_of : Pages → ℕ
spare_of pages =
    min pages.places.spare (min (vec_capacity pages.entries) (min pages.held.spare (2 ^ 32 - 1)) - vec_len pages.entries)

-- for how many wants more there is room: for themselves, their nodes and the numbers of their resources
abbrev pub wants_spare : Pages → ℕ
wants_spare pages =
    min (vec_capacity pages.wants - vec_len pages.wants) (min (min pages.lists.spare (2 ^ 32 - 1) - vec_len pages.wants) pages.desks.spare)

-- each resource that has a number, or may have one, has its lists
abbrev pub HaveLists : Pages → Type 0
HaveLists pages = pages.desks.limit + pages.desks.limit ≤ length pages.lists.lists

-- the places of the entries that hold are listed
abbrev pub ListHolders : Pages → Type 0
ListHolders pages = AreListed pages.entries.items pages.held.lists pages.held.spare
