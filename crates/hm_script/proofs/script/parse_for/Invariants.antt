use Rattle.std.proofs.Common.{◌≡◌, ◌+◌, ◌≤◌, ◌==◌, true, drop, length, map, vec_len, vec_capacity}
use Rattle.hm_script.specs.Lines.{lines_of}
use Rattle.hm_script.specs.Script.{IsFull, read_lines}
use Rattle.hm_script.specs.Spellings.{spelling}
use Rattle.hm_script.proofs.ScriptLemmas.{Passed, unless_lacked}
use Rattle.hm_script.proofs.script.parse_for.Given as goal

abbrev pub invariant-loop-rest : goal.invariant-loop-rest
invariant-loop-rest g l = record {
  passed : Passed g.C.Commands.reader (lines_of l.bytes) l.line (length l.commands.items == 0) (map spelling l.commands.items);
  left : drop l.line (lines_of l.bytes) ≡ lines_of l.rest;
  asked : read_lines g.C.Commands.reader 1 true (lines_of l.bytes) ≡ unless_lacked l.lacked (map spelling l.commands.items) (read_lines g.C.Commands.reader (l.line + 1) (length l.commands.items == 0) (lines_of l.rest));
  few : l.line + length l.rest ≤ length l.bytes;
  count : vec_len l.commands ≤ l.line;
  fits : vec_len l.commands ≤ l.room;
  there : l.room ≤ vec_capacity l.commands;
  made : IsFull l.room;
}

abbrev pub decreases-loop-rest : goal.decreases-loop-rest
decreases-loop-rest g l = length l.rest
