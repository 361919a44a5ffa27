use Rattle.std.proofs.Common.{◌≡◌}
use Rattle.hm_procedures.specs.Procedures.{children_below}
use Rattle.hm_procedures.proofs.Kids.{IsChild, bound, left}
use Rattle.hm_procedures.proofs.procedures.Procedures.children.Given as goal

abbrev pub invariant-loop-at : goal.invariant-loop-at
invariant-loop-at l = record {
  children : l.children.items ≡ children_below l.self.past l.fn.pid.0 (bound l.self.past l.at);
  child : IsChild l.self.past l.fn.pid.0 l.at;
}

abbrev pub decreases-loop-at : goal.decreases-loop-at
decreases-loop-at l = left l.self.past l.at
