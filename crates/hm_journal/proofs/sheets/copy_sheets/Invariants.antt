use Rattle.std.proofs.Common.{◌≡◌, take}
use Rattle.hm_journal.proofs.sheets.copy_sheets.Given as goal

abbrev pub invariant-loop-sheet : goal.invariant-loop-sheet
invariant-loop-sheet l = l.copy.items ≡ take l.sheet-index l.sheets
