use Rattle.std.proofs.Common.{arith, refl}
use Rattle.hm_fleet.specs.Fleet.{outside_of}
use Rattle.hm_world.proofs.Below.{forgotten}
use Rattle.hm_world.proofs.due.first_due.Goals as goal

pub returns-then-is_due-clause-some : goal.returns-then-is_due-clause-some
returns-then-is_due-clause-some c =
    (c.if-is_due.ensures.due refl, λ call due. c.in-Some.ensures.some.1 call.id.0 (c.loop-number.invariant.have call due))

pub loop-number-smaller : goal.loop-number-smaller
loop-number-smaller c = let less = c.pop.ensures.less c.in-Some.number c.in-Some.ensures.some.0 in omega (arith, less)

pub loop-number-preserved : goal.loop-number-preserved
loop-number-preserved c = record {
  have = forgotten c.args.state.now.past (outside_of c.args.fleet.now) c.in-Some.number c.loop-number.due.items c.pop.new.self.items c.loop-number.invariant.have (c.pop.ensures.without c.in-Some.number c.in-Some.ensures.some) (c.if-is_due.ensures.not_due refl);
}
