use Rattle.std.proofs.Common.{ℕ, ◌<◌, IsTrue, IsSome}
use Rattle.std.specs.List.{flat_map}
use Rattle.hm_model.specs.Sheets.{sheet_for}
use Rattle.hm_sheet.specs.Own.{is_kind}
use Rattle.hm_sheet.proofs.registry.lowest_missing.Given as goal

abbrev pub invariant-loop-kind : goal.invariant-loop-kind
invariant-loop-kind g l =
    (lower : ℕ) → lower < l.kind → IsTrue (is_kind lower) → IsSome (sheet_for (flat_map (λ h. (goal.Handler-dyn g (h.vtable, h.value)).sheets_are h.value) l.handlers) lower)
