use Rattle.std.proofs.Common.{◌≡◌, ◌++◌, drop}
use Rattle.std.specs.List.{flat_map}
use Rattle.hm_hbck.specs.Found.{hold_of, holds_of}
use Rattle.hm_hbck.specs.Pairs.{EndsOnce, of_pair}
use Rattle.hm_hbck.proofs.pairs.add_pairs_with.Given as goal

abbrev pub invariant-loop-other : goal.invariant-loop-other
invariant-loop-other l = record {
  found : l.found.items ++ flat_map (of_pair (hold_of l.one)) (holds_of (drop l.other-index l.after)) ≡ l.fn.found.items ++ flat_map (of_pair (hold_of l.one)) (holds_of l.after);
  ends : EndsOnce (hold_of l.one) (holds_of (drop l.other-index l.after));
}
