use Rattle.std.proofs.Common.{◌≡◌, ◌++◌, map, take}
use Rattle.hm_model.specs.declared.lock.Resource.TheVariants as resource_is
use Rattle.hm_model.specs.Locks.{exclusive}
use Rattle.hm_locks.proofs.asking.add_regions.Given as goal

abbrev pub invariant-loop-region : goal.invariant-loop-region
invariant-loop-region l = l.asks.items ≡ l.fn.asks.items ++ map (λ r. exclusive (resource_is.Region r)) (take l.region-index l.regions)
