use Rattle.std.proofs.Common.{◌≡◌, ◌+◌, ◌≤◌, ◌++◌, List, ℕ, length, take}
use Rattle.std.specs.Prelude.{vec_capacity}
use Rattle.hm_disk.specs.Disk.{written}
use Rattle.hm_log.specs.Format.{spelled, image_size}
use Rattle.hm_log.specs.Moving.{KeepsWithin}
use Rattle.hm_log.specs.Opening.{IsUsed}
use Rattle.hm_log.proofs.moving.put_image.Given as goal

abbrev pub invariant-loop-number : goal.invariant-loop-number
invariant-loop-number g l = record {
  capacity : vec_capacity l.buffer ≡ vec_capacity l.fn.buffer;
  room : length l.buffer.items ≤ 65541;
  laid : (done : List ℕ) × (done ++ l.buffer.items ≡ spelled (take l.number l.frames)) × (l.place ≡ l.at + length done)
      × (g.D.Disk.tells → g.D.Disk.seen l.disk ≡ written l.at done (g.D.Disk.seen l.fn.disk));
  goes_on : KeepsWithin g.D.Disk l.at (l.at + image_size l.frames) l.fn.disk l.disk;
  no_fault : g.D.Disk.faults l.disk ≡ g.D.Disk.faults l.fn.disk;
  used : IsUsed g.D.Disk l.fn.disk l.disk;
}
