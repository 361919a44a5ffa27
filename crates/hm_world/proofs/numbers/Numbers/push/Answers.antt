use Rattle.std.proofs.Common.{subst, sym}
use Rattle.hm_model.specs.Locks.{IsIn}
use Rattle.hm_world.specs.Numbers.{NumbersView}
use Rattle.hm_world.proofs.Heaps.{pushed_kept, pushed_there}
use Rattle.hm_world.proofs.numbers.Numbers.push.Goals as goal

pub returns-clause-new : goal.returns-clause-new
returns-clause-new c = pushed_there _ _ _ c.in-Ok.ensures.permutation

pub returns-clause-old : goal.returns-clause-old
returns-clause-old c q there = pushed_kept _ _ _ c.in-Ok.ensures.permutation q (subst (λ (v : NumbersView). IsIn q v.items) (sym c.self.view_is) there)
