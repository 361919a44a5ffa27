use Rattle.std.proofs.Common.{sym, refl, subst, ap, length}
use Rattle.hm_timer.specs.Timers.{IsWheel}
use Rattle.hm_timer.proofs.Wheels.{new_wheel}
use Rattle.hm_timer.proofs.wheel.Wheel.new.Goals as goal

pub invariant_of-result : goal.invariant_of-result
invariant_of-result c =
    let made = new_wheel c.in_ok-lists.lists 512 refl c.in_ok-lists.ensures.lists in record {
      wheel = subst (λ d. IsWheel 0 d c.in_ok-lists.lists) (sym c.new-2.ensures.items) made.0;
      all = ap length (sym made.1);
    }

pub returns-clause-set : goal.returns-clause-set
returns-clause-set c = (new_wheel c.in_ok-lists.lists 512 refl c.in_ok-lists.ensures.lists).1
