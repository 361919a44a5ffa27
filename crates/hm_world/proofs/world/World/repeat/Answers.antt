use Rattle.hm_world.proofs.Keeps.{sound_repeated}
use Rattle.hm_world.proofs.world.World.repeat.Goals as goal

pub invariant_of-self-2 : goal.invariant_of-self-2
invariant_of-self-2 g c = sound_repeated _ _ _ _ c.self.invariant c.in_ok-repeat.ensures.outside c.in_ok-repeat.ensures.wire c.in_ok-repeat.ensures.waiting
