use Rattle.std.proofs.Common.{◌≡◌, map, take}
use Rattle.hm_views.proofs.order.ids_of.Given as goal

abbrev pub invariant-loop-region : goal.invariant-loop-region
invariant-loop-region l = l.ids.items ≡ map (λ r. r.id) (take l.region-index l.regions)
