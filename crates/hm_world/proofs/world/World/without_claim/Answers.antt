use Rattle.std.proofs.Common.{refl}
use Rattle.hm_world.proofs.world.World.without_claim.Goals as goal

pub returns-then-can_carry-clause-takes : goal.returns-then-can_carry-clause-takes
returns-then-can_carry-clause-takes g c = ((c.requires.none, c.can_carry.ensures.same), c.if-can_carry.ensures.can refl)
