use Rattle.std.proofs.Common.{◌≡◌, ◌++◌}
use Rattle.hm_judge.proofs.inputs.copies_of.Given as goal

abbrev pub invariant-loop-region : goal.invariant-loop-region
invariant-loop-region l = l.copies.items ++ l.region-iterator ≡ l.fn.regions
