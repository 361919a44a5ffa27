-- The fields of a disk in memory.
use Rattle.std.specs.Prelude.{◌≡◌, ℕ, ◌≤◌, length, vec_capacity}
use Rattle.hm_disk.specs.Past.{Reaches}
use Rattle.hm_disk.specs.Memory.{MemView, filled}
use Rattle.hm_disk.specs.declared.memory.MemDisk.TheInside.{Inside}

-- what contracts see of them
abbrev pub view_of : Inside → MemView
view_of d = record {
  bytes = d.bytes.items;
  synced = d.synced.items;
  dirty = d.dirty.items;
  room = d.room;
  fails = d.fails.items;
  calls = d.calls;
  faults = d.faults;
  changes = d.changes;
  events = d.past.events;
}

-- all is within the room, and what a read gives, the last sync and each filling are images
pub record IsKept (m : MemView) : Type 0 where
  pub within : length m.bytes ≤ m.room
  pub was : length m.synced ≤ m.room
  pub marked : length m.dirty ≡ length m.bytes
  pub reads : Reaches m.events m.bytes
  pub kept : Reaches m.events m.synced
  pub fills : (v : ℕ) → Reaches m.events (filled v m.dirty m.bytes)

-- what is kept of the fields: also that the room was made for all three
pub record IsMemDisk (d : Inside) : Type 0 where
  pub kept : IsKept (view_of d)
  pub bytes_room : d.room ≤ vec_capacity d.bytes
  pub synced_room : d.room ≤ vec_capacity d.synced
  pub dirty_room : d.room ≤ vec_capacity d.dirty
