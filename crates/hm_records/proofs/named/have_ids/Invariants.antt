use Rattle.std.proofs.Common.{map, take}
use Rattle.hm_model.specs.RegionIds.{AreIds}
use Rattle.hm_records.proofs.named.have_ids.Given as goal

abbrev pub invariant-loop-region : goal.invariant-loop-region
invariant-loop-region l = AreIds (map (λ region. region.id) (take l.region-index l.regions))
