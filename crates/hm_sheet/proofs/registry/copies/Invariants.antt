use Rattle.std.proofs.Common.{drop, take, IsSome}
use Rattle.std.specs.List.{AllByRecursion, flat_map}
use Rattle.hm_model.specs.Sheets.{sheet_for}
use Rattle.hm_sheet.specs.Words.{AreSheetsOf}
use Rattle.hm_sheet.proofs.registry.copies.Given as goal

abbrev pub invariant-loop-kind : goal.invariant-loop-kind
invariant-loop-kind g l = record {
  copied : AreSheetsOf (take l.kind-index l.kinds) (flat_map (λ h. (goal.Handler-dyn g (h.vtable, h.value)).sheets_are h.value) l.handlers) l.sheets.items;
  there : AllByRecursion (λ kind. IsSome (sheet_for (flat_map (λ h. (goal.Handler-dyn g (h.vtable, h.value)).sheets_are h.value) l.handlers) kind)) (drop l.kind-index l.kinds);
}
