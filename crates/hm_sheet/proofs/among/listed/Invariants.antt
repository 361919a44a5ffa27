use Rattle.std.proofs.Common.{◌≡◌, drop}
use Rattle.hm_model.specs.Sheets.{sheet_for}
use Rattle.hm_sheet.proofs.among.listed.Given as goal

abbrev pub invariant-loop-sheet : goal.invariant-loop-sheet
invariant-loop-sheet l = sheet_for (drop l.sheet-index l.sheets) l.kind ≡ sheet_for l.sheets l.kind
