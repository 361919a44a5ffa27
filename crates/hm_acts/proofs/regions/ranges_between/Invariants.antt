use Rattle.std.proofs.Common.{◌≡◌, ◌++◌, drop}
use Rattle.hm_model.specs.Pieces.{ranges_between, ranges_from}
use Rattle.hm_acts.proofs.regions.ranges_between.Given as goal

abbrev pub invariant-loop-bound : goal.invariant-loop-bound
invariant-loop-bound l = l.ranges.items ++ ranges_from l.before (drop l.bound-index l.rest) ≡ ranges_between l.bounds
