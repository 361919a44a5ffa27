use Rattle.std.proofs.Common.{◌≡◌, ◌++◌, drop}
use Rattle.std.specs.List.{flat_map}
use Rattle.hm_places.specs.Places.{place_in}
use Rattle.hm_hbck.specs.Found.{holds_of, of_hold}
use Rattle.hm_hbck.proofs.holdings.add_holdings.Given as goal

abbrev pub invariant-loop-holding : goal.invariant-loop-holding
invariant-loop-holding l =
    l.found.items ++ flat_map (of_hold (place_in l.places.places)) (holds_of (drop l.holding-index l.list))
    ≡ l.fn.found.items ++ flat_map (of_hold (place_in l.places.places)) (holds_of l.list)
