use Rattle.std.proofs.Common.{◌≡◌, ℕ, ◌<◌}
use Rattle.hm_model.specs.Sheets.{sheet_for}
use Rattle.hm_journal.proofs.sheets.lowest_difference.Given as goal

abbrev pub invariant-loop-kind : goal.invariant-loop-kind
invariant-loop-kind l = (lower : ℕ) → lower < l.kind → sheet_for l.sheets lower ≡ sheet_for l.others lower
