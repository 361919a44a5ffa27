use Rattle.std.proofs.Common.{◌≡◌, ◌+◌, ◌-◌, false, length, min}
use Rattle.std.specs.Prelude.{if◌then◌else◌}
use Rattle.hm_log.specs.Opening.{OnlyReads}
use Rattle.hm_log.specs.Pieces.{EndsAt, StandsIn, IsShutBehind, body_in}
use Rattle.hm_log.proofs.pieces.read_frames.Given as goal

abbrev pub invariant-loop-gate : goal.invariant-loop-gate
invariant-loop-gate g l = record {
  reads : OnlyReads g.D.Disk l.fn.disk l.disk;
  no_fault : g.D.Disk.faults l.disk ≡ g.D.Disk.faults l.fn.disk;
  ends : EndsAt l.span.first l.frames l.gate.place l.span.limit;
  stands : g.D.Disk.tells → StandsIn (body_in l.span.first l.span.limit (g.D.Disk.seen l.fn.disk)) l.frames;
  shut : g.D.Disk.tells → l.gate.is_open ≡ false → IsShutBehind (body_in l.span.first l.span.limit (g.D.Disk.seen l.fn.disk)) l.frames;
  room : length l.piece.items ≡ min (l.span.limit - l.span.first) 1048576;
}

abbrev pub decreases-loop-gate : goal.decreases-loop-gate
decreases-loop-gate g l = (l.span.limit - l.gate.place) + (if l.gate.is_open then 1 else 0)
