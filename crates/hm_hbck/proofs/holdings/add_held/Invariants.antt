use Rattle.std.proofs.Common.{◌≡◌, ◌++◌}
use Rattle.hm_server.specs.Actors.{held_in}
use Rattle.hm_hbck.specs.Found.{held_by, holds_of}
use Rattle.hm_hbck.proofs.holdings.add_held.Given as goal

abbrev pub invariant-loop-region : goal.invariant-loop-region
invariant-loop-region l =
    holds_of l.list.items ++ held_by l.catalog.rows l.actor.name l.region-iterator
    ≡ holds_of l.fn.list.items ++ held_by l.catalog.rows l.actor.name (held_in l.actor.duties)
