use Rattle.std.proofs.Common.{◌≡◌, ◌++◌}
use Rattle.std.specs.Vec.Iter.{into_iter_items}
use Rattle.hm_balance.specs.Plan.{paired}
use Rattle.hm_balance.proofs.planning.pairs.Given as goal

abbrev pub invariant-loop-from : goal.invariant-loop-from
invariant-loop-from l = l.shifts.items ++ paired (into_iter_items l.from-iterator) (into_iter_items l.takers) ≡ paired l.fn.givers.items l.fn.takers.items
