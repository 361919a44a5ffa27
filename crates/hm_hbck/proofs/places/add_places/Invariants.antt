use Rattle.std.proofs.Common.{◌≡◌, ◌++◌}
use Rattle.std.specs.List.{flat_map}
use Rattle.hm_model.specs.Standings.{is_live_in}
use Rattle.hm_hbck.specs.Found.{of_place, running_in}
use Rattle.hm_hbck.proofs.places.add_places.Given as goal

abbrev pub invariant-loop-region : goal.invariant-loop-region
invariant-loop-region l =
    l.found.items ++ flat_map (of_place (running_in (λ actor. actor.now) l.crew.pairs) (is_live_in l.servers.servers)) l.region-iterator
    ≡ l.fn.found.items ++ flat_map (of_place (running_in (λ actor. actor.now) l.crew.pairs) (is_live_in l.servers.servers)) l.places.places
