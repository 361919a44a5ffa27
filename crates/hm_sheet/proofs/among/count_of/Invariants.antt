use Rattle.std.proofs.Common.{◌≡◌, ◌≤◌, ◌+◌, ◌-◌, ◌^◌, min, drop}
use Rattle.std.specs.List.{flat_map}
use Rattle.hm_sheet.specs.Words.{count_of}
use Rattle.hm_sheet.proofs.among.count_of.Given as goal

abbrev pub invariant-loop-handler : goal.invariant-loop-handler
invariant-loop-handler g l =
    (l.count ≤ 2 ^ 64 - 1)
    × (min (l.count + count_of (flat_map (λ h. (goal.Handler-dyn g (h.vtable, h.value)).sheets_are h.value) (drop l.handler-index l.handlers)) l.kind) (2 ^ 64 - 1) ≡ min (count_of (flat_map (λ h. (goal.Handler-dyn g (h.vtable, h.value)).sheets_are h.value) l.handlers) l.kind) (2 ^ 64 - 1))
