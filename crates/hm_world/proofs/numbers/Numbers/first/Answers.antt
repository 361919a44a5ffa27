use Rattle.std.proofs.Common.{subst}
use Rattle.hm_world.specs.Numbers.{IsLowest, NumbersView}
use Rattle.hm_world.proofs.Heaps.{first_lowest}
use Rattle.hm_world.proofs.numbers.Numbers.first.Goals as goal

pub returns-in-Some-clause-some : goal.returns-in-Some-clause-some
returns-in-Some-clause-some c =
    subst (λ (v : NumbersView). IsLowest c.in-Some.first.now.0 v.items) c.self.view_is (first_lowest c.in-Some.first.now _ c.in-Some.ensures.item.3.0 c.in-Some.ensures.lookup (c.in-Some.ensures.greatest c.self.invariant))
