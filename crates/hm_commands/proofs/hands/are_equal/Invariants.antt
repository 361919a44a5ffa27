use Rattle.std.proofs.Common.{◌≡◌, ℕ, ◌<◌}
use Rattle.hm_model.specs.Sheets.{sheet_for}
use Rattle.hm_sheet.specs.Registry.{sheets_by}
use Rattle.hm_commands.proofs.hands.are_equal.Given as goal

abbrev pub invariant-loop-kind : goal.invariant-loop-kind
invariant-loop-kind g l =
    (lower : ℕ) → lower < l.kind
    → sheet_for (sheets_by (goal.Handler-dyn g) l.one) lower
    ≡ sheet_for (sheets_by (goal.Handler-dyn g) l.other) lower
