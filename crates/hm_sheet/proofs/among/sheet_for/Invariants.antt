use Rattle.std.proofs.Common.{◌≡◌, drop}
use Rattle.hm_model.specs.Sheets.{sheet_for}
use Rattle.hm_sheet.proofs.among.sheet_for.Given as goal

abbrev pub invariant-loop-valid : goal.invariant-loop-valid
invariant-loop-valid l = sheet_for (drop l.valid-index l.sheets) l.kind ≡ sheet_for l.sheets l.kind
