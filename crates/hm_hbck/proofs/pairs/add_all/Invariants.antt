use Rattle.std.proofs.Common.{◌≡◌, ◌++◌, ◌-◌, ◌≤◌, drop, length}
use Rattle.hm_hbck.specs.Found.{holds_of}
use Rattle.hm_hbck.specs.Pairs.{EachEndsOnce, of_pairs}
use Rattle.hm_hbck.proofs.pairs.add_all.Given as goal

abbrev pub invariant-loop-at : goal.invariant-loop-at
invariant-loop-at l = record {
  found : l.found.items ++ of_pairs (holds_of (drop l.at l.list)) ≡ l.fn.found.items ++ of_pairs (holds_of l.list);
  ends : EachEndsOnce (holds_of (drop l.at l.list));
  within : l.at ≤ length l.list;
}

abbrev pub decreases-loop-at : goal.decreases-loop-at
decreases-loop-at l = length l.list - l.at
