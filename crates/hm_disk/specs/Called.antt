-- What a call does to the counts and the setting of a disk.
use Rattle.std.specs.Prelude.{◌≡◌, ℕ, ◌+◌, ◌≤◌}
use Rattle.hm_disk.specs.declared.disk.Disk as Disk

-- the faults don't fall, so many changes at most are counted, and the setting stays
pub record IsCalled {D Setting : Type 0} (disk : Disk.Ghosts D Setting) (most : ℕ) (old new : D) : Type 0 where
  pub fault : disk.faults old ≤ disk.faults new
  pub later : disk.changes old ≤ disk.changes new
  pub changes : disk.changes new ≤ disk.changes old + most
  pub setting : disk.setting new ≡ disk.setting old
