use Rattle.hm_world.proofs.Keeps.{sound_armed}
use Rattle.hm_world.proofs.world.World.arm.Goals as goal

pub invariant_of-self : goal.invariant_of-self
invariant_of-self g c = sound_armed _ _ _ _ c.self.invariant _ _ c.arm.ensures.outside c.arm.ensures.wire c.arm.ensures.waiting
