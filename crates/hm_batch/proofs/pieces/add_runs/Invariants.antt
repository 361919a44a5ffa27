use Rattle.std.proofs.Common.{◌≡◌, ◌+◌, ◌*◌, ◌++◌, List, ℕ, length, take, drop, false}
use Rattle.hm_disk.specs.Disk.{LeavesOnly, RisesBy}
use Rattle.hm_log.specs.Format.{Reads}
use Rattle.hm_batch.specs.Flushing.{ReadsWithFirst}
use Rattle.hm_batch.specs.Pieces.{in_order, runs_of}
use Rattle.hm_batch.specs.View.{AreLaid}
use Rattle.hm_batch.proofs.pieces.add_runs.Given as goal

abbrev pub invariant-loop-note : goal.invariant-loop-note
invariant-loop-note g l = record {
  live : l.log.stalled ≡ false;
  rest : (pieces : List (List (List ℕ))) → AreLaid l.fn.notes l.fn.bytes pieces → l.rest ≡ runs_of (drop l.note-index pieces);
  bytes : l.log.bytes + length l.rest ≡ l.fn.log.bytes + length l.fn.bytes;
  room : l.log.room ≡ l.fn.log.room;
  frames : g.D.Disk.tells → (pieces : List (List (List ℕ))) → AreLaid l.fn.notes l.fn.bytes pieces → l.log.frames ≡ l.fn.log.frames ++ in_order (take l.note-index pieces);
  durable : g.D.Disk.tells → (c : List ℕ) → g.D.Disk.image l.log.disk c → Reads c l.log.frames;
  moments : g.D.Disk.tells → (pieces : List (List (List ℕ))) → AreLaid l.fn.notes l.fn.bytes pieces → LeavesOnly g.D.Disk.moment g.D.Disk.left_since l.fn.log.disk l.log.disk (ReadsWithFirst l.fn.log.frames pieces);
  no_fault : g.D.Disk.faults l.log.disk ≡ g.D.Disk.faults l.fn.log.disk;
  changes : RisesBy (2 * l.note-index) (g.D.Disk.changes l.fn.log.disk) (g.D.Disk.changes l.log.disk);
  setting : g.D.Disk.setting l.log.disk ≡ g.D.Disk.setting l.fn.log.disk;
}
