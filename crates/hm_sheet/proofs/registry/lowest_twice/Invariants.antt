use Rattle.std.proofs.Common.{ℕ, ◌<◌, ◌≤◌}
use Rattle.std.specs.List.{flat_map}
use Rattle.hm_sheet.specs.Words.{count_of}
use Rattle.hm_sheet.proofs.registry.lowest_twice.Given as goal

abbrev pub invariant-loop-kind : goal.invariant-loop-kind
invariant-loop-kind g l =
    (lower : ℕ) → lower < l.kind → count_of (flat_map (λ h. (goal.Handler-dyn g (h.vtable, h.value)).sheets_are h.value) l.handlers) lower ≤ 1
