use Rattle.std.proofs.Common.{◌≡◌, take}
use Rattle.hm_views.proofs.order.copies.Given as goal

abbrev pub invariant-loop-region : goal.invariant-loop-region
invariant-loop-region l = l.copied.items ≡ take l.region-index l.regions
