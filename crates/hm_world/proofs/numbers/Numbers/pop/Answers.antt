use Rattle.std.proofs.Common.{sym, subst}
use Rattle.hm_model.specs.Locks.{IsIn}
use Rattle.hm_world.specs.Numbers.{IsLowest, NumbersView}
use Rattle.hm_world.proofs.Heaps.{popped_without}
use Rattle.hm_world.proofs.numbers.Numbers.pop.Goals as goal

pub returns-clause-without : goal.returns-clause-without
returns-clause-without c p lowest q there =
    popped_without c.in-Some.field-0 _ _ c.in-Some.ensures.permutation (c.in-Some.ensures.heap_order c.self.invariant).1 p (subst (λ (v : NumbersView). IsLowest p v.items) (sym c.self.view_is) lowest) q (subst (λ (v : NumbersView). IsIn q v.items) (sym c.self.view_is) there)
