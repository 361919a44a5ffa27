use Rattle.std.proofs.Common.{◌≡◌, ◌+◌, ◌++◌, length, map}
use Rattle.hm_sheet.specs.Lines.{line_of}
use Rattle.hm_sheet.specs.Own.{in_turn}
use Rattle.hm_sheet.proofs.own.push_rows.Given as goal

abbrev pub invariant-loop-rest : goal.invariant-loop-rest
invariant-loop-rest l = record {
  so_far : l.rows.items ++ in_turn l.next (map line_of l.rest) ≡ l.fn.rows.items ++ in_turn 1 (map line_of l.lines);
  numbered : l.next + length l.rest ≡ 1 + length l.lines;
}

abbrev pub decreases-loop-rest : goal.decreases-loop-rest
decreases-loop-rest l = length l.rest
