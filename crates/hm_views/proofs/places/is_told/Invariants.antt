use Rattle.std.proofs.Common.{◌≡◌, drop}
use Rattle.hm_model.specs.TransitActs.{is_told}
use Rattle.hm_views.proofs.places.is_told.Given as goal

abbrev pub invariant-loop-end : goal.invariant-loop-end
invariant-loop-end l = is_told l.told (drop l.end-index l.ends) ≡ is_told l.told l.ends
