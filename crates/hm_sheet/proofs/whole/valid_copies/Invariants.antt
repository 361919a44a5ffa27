use Rattle.std.proofs.Common.{◌≡◌, take}
use Rattle.hm_model.specs.Validity.{AllValid}
use Rattle.hm_sheet.proofs.whole.valid_copies.Given as goal

abbrev pub invariant-loop-sheet : goal.invariant-loop-sheet
invariant-loop-sheet l = record {
  same : l.copies.items ≡ take l.sheet-index l.sheets;
  valid : AllValid (take l.sheet-index l.sheets);
}
