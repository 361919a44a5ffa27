use Rattle.std.proofs.Common.{◌≡◌, ◌≤◌, ◌++◌, drop}
use Rattle.std.specs.List.{AllByRecursion}
use Rattle.hm_model.specs.Catalog.{row_at}
use Rattle.hm_model.specs.Changes.{remove_regions}
use Rattle.hm_model.specs.Views.{regions_in}
use Rattle.hm_acts.proofs.regions.remove_regions.Given as goal

abbrev pub invariant-loop-id : goal.invariant-loop-id
invariant-loop-id l = record {
  so_far : l.edits.items ++ remove_regions (row_at l.rows) (regions_in l.table (drop l.id-index l.ids)) ≡ remove_regions (row_at l.rows) (regions_in l.table l.ids);
  drawn : AllByRecursion (λ id. 1 ≤ id) (drop l.id-index l.ids);
}
