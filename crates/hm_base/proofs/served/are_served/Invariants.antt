use Rattle.std.proofs.Common.{◌↔◌}
use Rattle.std.specs.List.{AllByRecursion}
use Rattle.hm_model.specs.Standings.{is_live_in}
use Rattle.hm_base.specs.Whole.{IsServed}
use Rattle.hm_base.proofs.served.are_served.Given as goal

abbrev pub invariant-loop-region : goal.invariant-loop-region
invariant-loop-region l =
    AllByRecursion (λ row. IsServed (is_live_in l.servers.servers) row.1) l._region-iterator ↔ AllByRecursion (λ row. IsServed (is_live_in l.servers.servers) row.1) l.places.places
