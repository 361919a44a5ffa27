use Rattle.std.proofs.Common.{◌≡◌, ◌+◌, drop, map}
use Rattle.std.specs.List.{flat_map}
use Rattle.hm_model.specs.Sheets.{sheet_for}
use Rattle.hm_sheet.specs.Words.{place_for}
use Rattle.hm_sheet.proofs.among.place_of.Given as goal

abbrev pub invariant-loop-place : goal.invariant-loop-place
invariant-loop-place g l = record {
  found : sheet_for (flat_map (λ h. (goal.Handler-dyn g (h.vtable, h.value)).sheets_are h.value) (drop l.place l.handlers)) l.kind ≡ sheet_for (flat_map (λ h. (goal.Handler-dyn g (h.vtable, h.value)).sheets_are h.value) l.handlers) l.kind;
  passed : place_for l.kind (map (λ h. (goal.Handler-dyn g (h.vtable, h.value)).sheets_are h.value) l.handlers) ≡ l.place + place_for l.kind (map (λ h. (goal.Handler-dyn g (h.vtable, h.value)).sheets_are h.value) (drop l.place l.handlers));
}
