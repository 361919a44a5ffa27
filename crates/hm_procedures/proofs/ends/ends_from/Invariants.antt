use Rattle.std.proofs.Common.{◌≡◌}
use Rattle.hm_procedures.specs.Changes.{ends_in}
use Rattle.hm_procedures.proofs.ends.ends_from.Given as goal

abbrev pub invariant-loop-i : goal.invariant-loop-i
invariant-loop-i l = l.ends.items ≡ ends_in l.low l.kept l.from l.i
