use Rattle.hm_world.proofs.Keeps.{sound_died}
use Rattle.hm_world.proofs.world.World.die.Goals as goal

pub invariant_of-self : goal.invariant_of-self
invariant_of-self g c = sound_died _ _ _ _ c.self.invariant _ c.die.ensures.outside c.die.ensures.wire c.die.ensures.waiting
