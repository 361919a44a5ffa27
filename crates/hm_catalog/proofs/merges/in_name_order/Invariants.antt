use Rattle.std.proofs.Common.{◌≡◌, ◌-◌, drop}
use Rattle.hm_model.specs.Locks.{in_name_order}
use Rattle.hm_catalog.proofs.merges.in_name_order.Given as goal

abbrev pub invariant-loop-done : goal.invariant-loop-done
invariant-loop-done l = l.sorted.items ≡ in_name_order (drop (l.count - l.done) l.regions)
