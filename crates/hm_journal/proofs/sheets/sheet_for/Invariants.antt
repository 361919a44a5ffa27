use Rattle.std.proofs.Common.{◌≡◌, drop}
use Rattle.hm_model.specs.Sheets.{sheet_for as first_of}
use Rattle.hm_journal.proofs.sheets.sheet_for.Given as goal

abbrev pub invariant-loop-sheet : goal.invariant-loop-sheet
invariant-loop-sheet l = first_of (drop l.sheet-index l.sheets) l.kind ≡ first_of l.sheets l.kind
