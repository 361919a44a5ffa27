use Rattle.std.proofs.Common.{refl, subst, sym}
use Rattle.hm_fleet.specs.Fleet.{outside_of}
use Rattle.hm_model.specs.Locks.{IsIn}
use Rattle.hm_world.proofs.Below.{below_added, below_passed}
use Rattle.hm_world.proofs.opening.add_due.Goals as goal

pub returns-in_ok-reserve : goal.returns-in_ok-reserve
returns-in_ok-reserve c =
    below_added c.args.state.now.past (outside_of c.args.fleet.now) c.args.pid c.args.numbers.now.items c.push.new.self.items c.requires (λ q there. c.push.ensures.old q (subst (IsIn q) (sym c.reserve.ensures.items) there)) c.push.ensures.new

pub returns-else-is_due : goal.returns-else-is_due
returns-else-is_due c =
    below_passed c.args.state.now.past (outside_of c.args.fleet.now) c.args.pid c.args.numbers.now.items c.requires (c.if-is_due.ensures.not_due refl)
