use Rattle.hm_world.proofs.Keeps.{sound_lost}
use Rattle.hm_world.proofs.world.World.lose.Goals as goal

pub invariant_of-self : goal.invariant_of-self
invariant_of-self g c = sound_lost _ _ _ _ c.self.invariant c.lose.ensures.outside c.lose.ensures.wire c.lose.ensures.waiting
