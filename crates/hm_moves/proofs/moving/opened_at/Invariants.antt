use Rattle.std.proofs.Common.{◌≡◌, ◌++◌, map}
use Rattle.std.specs.List.{filter}
use Rattle.hm_data.specs.declared.place.RegionState.TheVariants as place_is
use Rattle.hm_model.specs.TransitActs.{is_state}
use Rattle.hm_places.specs.Places.{place_in}
use Rattle.hm_moves.specs.Opened.{opened_at}
use Rattle.hm_moves.proofs.moving.opened_at.Given as goal

abbrev pub invariant-loop-region : goal.invariant-loop-region
invariant-loop-region l =
    map (λ r. r.now) l.opened.items ++ filter (λ region. is_state place_is.Opened (place_in l.places.places region)) l.region-iterator ≡ opened_at l.places.places l.server
