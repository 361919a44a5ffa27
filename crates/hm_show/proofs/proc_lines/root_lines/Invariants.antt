use Rattle.std.proofs.Common.{◌+◌, ◌++◌, ◌≤◌, drop, length, map}
use Rattle.hm_model.specs.OldRoots.{old_records}
use Rattle.hm_show.specs.Lines.{AreLinesBut}
use Rattle.hm_show.specs.Procs.{proc_line}
use Rattle.hm_show.proofs.Shown.{lines_of}
use Rattle.hm_show.proofs.proc_lines.root_lines.Given as goal

abbrev pub invariant-loop-one : goal.invariant-loop-one
invariant-loop-one l = record {
  rest : AreLinesBut (map proc_line (drop l.one-index l.old)) (map proc_line l.old) l.lines;
  few : l.lines.count ≤ l.one-index;
}

abbrev pub invariant-loop-root : goal.invariant-loop-root
invariant-loop-root l = record {
  rest : AreLinesBut (lines_of l.procedures.past (drop l.root-index l.roots)) (map proc_line (old_records l.procedures.past) ++ lines_of l.procedures.past l.roots) l.lines;
  few : l.lines.count ≤ length (old_records l.procedures.past) + l.root-index;
}
