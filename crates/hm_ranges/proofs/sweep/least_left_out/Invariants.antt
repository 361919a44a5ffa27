use Rattle.std.proofs.Common.{map, drop}
use Rattle.hm_ranges.proofs.Swept.{IsWalked}
use Rattle.hm_ranges.proofs.sweep.least_left_out.Given as goal

abbrev pub invariant-loop-ranged : goal.invariant-loop-ranged
invariant-loop-ranged g l = IsWalked (map g.T.Ranged.range_of l.ranges) (map g.T.Ranged.range_of (drop l.ranged-index l.ranges)) l.least
