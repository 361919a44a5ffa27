use Rattle.std.proofs.Common.{◌≡◌, drop, map, take, IsTrue}
use Rattle.std.specs.List.{AllByRecursion}
use Rattle.hm_sheet.specs.Own.{is_kind, own_sheet}
use Rattle.hm_sheet.proofs.own.own_sheets.Given as goal

abbrev pub invariant-loop-kind : goal.invariant-loop-kind
invariant-loop-kind l = record {
  so_far : l.sheets.items ≡ map own_sheet (take l.kind-index l.kinds);
  kinds : AllByRecursion (λ kind. IsTrue (is_kind kind)) (drop l.kind-index l.kinds);
}
