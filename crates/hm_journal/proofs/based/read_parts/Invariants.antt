use Rattle.std.proofs.Common.{◌≡◌, length, take}
use Rattle.hm_journal.specs.Judged.{Spells, parts_in}
use Rattle.hm_journal.proofs.based.read_parts.Given as goal

abbrev pub invariant-loop-number : goal.invariant-loop-number
invariant-loop-number l = record {
  count : length l.parts.items ≡ l.number;
  so_far : Spells (take l.number l.frames) (parts_in l.parts.items);
}
