use Rattle.std.proofs.Common.{◌≡◌}
use Rattle.hm_sheet.specs.Registry.{sheets_at}
use Rattle.hm_rows_sheets.proofs.learns.taught.Given as goal

abbrev pub invariant-loop-lesson : goal.invariant-loop-lesson
invariant-loop-lesson g l = sheets_at l.registry l.edition ≡ l.has
