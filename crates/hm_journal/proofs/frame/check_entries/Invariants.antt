use Rattle.std.proofs.Common.{List, take}
use Rattle.hm_data.specs.declared.entry.Entry.{Entry}
use Rattle.hm_journal.specs.Judged.{Spells}
use Rattle.hm_journal.proofs.frame.check_entries.Given as goal

abbrev pub invariant-loop-number : goal.invariant-loop-number
invariant-loop-number l = (entries : List Entry) × Spells (take l.number l.frames) entries
