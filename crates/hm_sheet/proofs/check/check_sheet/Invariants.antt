use Rattle.std.proofs.Common.{◌≡◌, ℕ, ◌<◌, None}
use Rattle.hm_model.specs.Validity.{first_broken, sheet_rules}
use Rattle.hm_sheet.proofs.check.check_sheet.Given as goal

abbrev pub invariant-loop-place : goal.invariant-loop-place
invariant-loop-place l = (lower : ℕ) → lower < l.place → first_broken (sheet_rules l.sheet lower) ≡ None
