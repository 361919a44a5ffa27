use Rattle.std.proofs.Common.{◌-◌, ◌≡◌, ◌+◌, ◌≤◌, ◌++◌, List, ℕ, length}
use Rattle.std.specs.Prelude.{vec_capacity}
use Rattle.hm_log.specs.Moving.{KeepsWithin}
use Rattle.hm_log.specs.Opening.{IsUsed}
use Rattle.hm_log.proofs.moving.put_zeros.Given as goal

abbrev pub invariant-loop-at : goal.invariant-loop-at
invariant-loop-at g l = record {
  capacity : vec_capacity l.buffer ≡ vec_capacity l.fn.buffer;
  low : l.end ≤ l.at;
  high : l.at ≤ l.place;
  written : g.D.Disk.tells → (zeros : List ℕ) × (l.end + length zeros ≡ l.at) × (g.D.Disk.seen l.disk ≡ g.D.Disk.seen l.fn.disk ++ zeros);
  goes_on : KeepsWithin g.D.Disk l.end l.place l.fn.disk l.disk;
  no_fault : g.D.Disk.faults l.disk ≡ g.D.Disk.faults l.fn.disk;
  used : IsUsed g.D.Disk l.fn.disk l.disk;
}

abbrev pub decreases-loop-at : goal.decreases-loop-at
decreases-loop-at g l = l.place - l.at
