use Rattle.std.proofs.Common.{◌≤◌, drop, map}
use Rattle.hm_show.specs.Lines.{AreLinesBut}
use Rattle.hm_show.specs.Locks.{lock_line}
use Rattle.hm_show.proofs.lock_lines.lock_lines.Given as goal

abbrev pub invariant-loop-lock : goal.invariant-loop-lock
invariant-loop-lock l = record {
  rest : AreLinesBut (map lock_line (drop l.lock-index l.locks)) (map lock_line l.locks) l.lines;
  few : l.lines.count ≤ l.lock-index;
}
