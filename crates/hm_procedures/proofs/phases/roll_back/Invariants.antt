use Rattle.std.proofs.Common.{◌≡◌, ℕ, ◌+◌, ◌-◌, Some, None, length}
use Rattle.hm_procedures.proofs.Rolled.{AreShown, IsAt}
use Rattle.hm_procedures.proofs.phases.roll_back.Given as goal

abbrev pub invariant-loop-at : goal.invariant-loop-at
invariant-loop-at l = record {
  shown : AreShown l.fn.from l.fn.kept l.kept l.fn.root l.fn.cause l.at;
  at : IsAt l.fn.from l.fn.trees.roots l.fn.root l.at;
  from : l.from ≡ l.fn.from;
  begin : l.trees.from ≡ l.fn.trees.from;
  cause : l.cause ≡ l.fn.cause;
  roots : l.trees.roots ≡ l.fn.trees.roots;
}

abbrev pub decreases-loop-at : goal.decreases-loop-at
decreases-loop-at l = elim l.at as (λ x. ℕ) [ None ↦ 0 | Some at ↦ l.fn.from + length l.fn.trees.roots + 1 - at.0 ]
