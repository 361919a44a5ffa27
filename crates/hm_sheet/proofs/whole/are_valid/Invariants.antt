use Rattle.std.proofs.Common.{take}
use Rattle.hm_model.specs.Validity.{AllValid}
use Rattle.hm_sheet.proofs.whole.are_valid.Given as goal

abbrev pub invariant-loop-sheet : goal.invariant-loop-sheet
invariant-loop-sheet l = AllValid (take l.sheet-index l.sheets)
