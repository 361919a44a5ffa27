-- What contracts see of a disk in memory.
use Rattle.std.specs.Prelude.{◌≡◌, ◌⊎◌, ℕ, ◌≤◌, List, [], ◌∷◌, length, take, replicate, if◌then◌else◌, ◌==◌}
use Rattle.std.proofs.Common.{inl, inr, arith}
use Rattle.hm_ports.specs.Faults.{raised}
use Rattle.hm_disk.specs.Disk.{written, Elapses}
use Rattle.hm_disk.specs.Past.{Event, Reaches, ReachesSince}

-- what a read gives, the content of the last sync, a 1 for each byte that isn't synced, the room in bytes,
-- the numbers of the calls that are to fail, the calls so far, the two counts, and the past
pub record MemView : Type 0 where
  pub bytes : List ℕ
  pub synced : List ℕ
  pub dirty : List ℕ
  pub room : ℕ
  pub fails : List ℕ
  pub calls : ℕ
  pub faults : ℕ
  pub changes : ℕ
  pub events : List Event

-- a new disk, whose bytes are synced
abbrev pub new_disk : ℕ → List ℕ → List ℕ → MemView
new_disk room bytes fails = record {
  bytes = bytes;
  synced = bytes;
  dirty = replicate (length bytes) 0;
  room = room;
  fails = fails;
  calls = 0;
  faults = 0;
  changes = 0;
  events = inr bytes ∷ [];
}

-- the disk after a call that changes nothing but the number of calls
abbrev pub after_call : MemView → MemView
after_call m = record m { calls = raised m.calls }

-- after a failure of such a call
abbrev pub after_failure : MemView → MemView
after_failure m = record m { calls = raised m.calls; faults = raised m.faults }

-- after a failure of a write or a cut
abbrev pub after_failed_change : MemView → MemView
after_failed_change m = record m { calls = raised m.calls; faults = raised m.faults; changes = raised m.changes }

-- after a write: its bytes aren't synced
abbrev pub after_write : ℕ → List ℕ → MemView → MemView
after_write at bytes m = record m {
  bytes = written at bytes m.bytes;
  dirty = written at (replicate (length bytes) 1) m.dirty;
  calls = raised m.calls;
  changes = raised m.changes;
  events = inl (inl (at, bytes)) ∷ m.events;
}

-- after a cut
abbrev pub after_cut : ℕ → MemView → MemView
after_cut size m = record m {
  bytes = take size m.bytes;
  dirty = take size m.dirty;
  calls = raised m.calls;
  changes = raised m.changes;
  events = inl (inr size) ∷ m.events;
}

-- after a sync: all that reads is synced
abbrev pub after_sync : MemView → MemView
after_sync m = record m {
  synced = m.bytes;
  dirty = replicate (length m.bytes) 0;
  calls = raised m.calls;
  events = inr m.bytes ∷ m.events;
}

-- after a stop that left this content, all of it synced: no other past is known
abbrev pub after_stop : List ℕ → MemView → MemView
after_stop content m = record m {
  bytes = content;
  synced = content;
  dirty = replicate (length content) 0;
  events = inr content ∷ [];
}

-- the content with each byte that has a 1 replaced
abbrev pub filled : ℕ → List ℕ → List ℕ → List ℕ
filled v (mark ∷ marks) (byte ∷ bytes) = (if mark == 1 then v else byte) ∷ filled v marks bytes
filled v marks bytes = []

-- what a stop now may leave
abbrev pub mem_image : MemView → List ℕ → Type 0
mem_image m c = (c ≡ m.bytes) ⊎ Reaches m.events c

-- what a stop at some moment from that one on may have left
abbrev pub mem_since : MemView → ℕ → List ℕ → Type 0
mem_since m t c = (c ≡ m.bytes) ⊎ ReachesSince m.events t c

-- time goes on from one disk to the next
abbrev pub MemElapses : MemView → MemView → Type 0
MemElapses old new = Elapses (length old.events) (length new.events) (mem_since old) (mem_since new) (mem_image new)

since_now : (events : List Event) (t : ℕ) (c : List ℕ) → t ≤ length events → Reaches events c → ReachesSince events t c
since_now [] t c le now = now
since_now (e ∷ events) t c le now = inl now

-- this moment is one of those since an earlier one
pub mem_counts_now : (m : MemView) (t : ℕ) (c : List ℕ) → t ≤ length m.events → mem_image m c → mem_since m t c
mem_counts_now m t c le (inl is) = inl is
mem_counts_now m t c le (inr now) = inr (since_now m.events t c le now)

now_only : (events : List Event) (c : List ℕ) → ReachesSince events (length events) c → Reaches events c
now_only [] c left = left
now_only (e ∷ events) c (inl now) = now
now_only (e ∷ events) c (inr earlier) = absurd (let late = earlier.0 in omega arith)

-- since this moment there is no other
pub mem_only_now : (m : MemView) (c : List ℕ) → mem_since m (length m.events) c → mem_image m c
mem_only_now m c (inl is) = inl is
mem_only_now m c (inr left) = inr (now_only m.events c left)
