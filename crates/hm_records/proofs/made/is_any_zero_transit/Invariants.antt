use Rattle.std.proofs.Common.{◌≡◌, drop}
use Rattle.std.specs.List.{list_any}
use Rattle.hm_model.specs.RegionIds.{is_zero_transit}
use Rattle.hm_records.proofs.made.is_any_zero_transit.Given as goal

abbrev pub invariant-loop-child : goal.invariant-loop-child
invariant-loop-child l = list_any is_zero_transit (drop l.child-index l.children) ≡ list_any is_zero_transit l.children
