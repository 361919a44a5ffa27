use Rattle.hm_world.proofs.Keeps.{sound_delivers}
use Rattle.hm_world.proofs.world.World.deliver.Goals as goal

pub invariant_of-self-2 : goal.invariant_of-self-2
invariant_of-self-2 g c = sound_delivers _ c.self.inside.fleet c.deliver.new.self _ c.self.invariant c.in_ok-deliver.field-0 c.in_ok-deliver.ensures.delivers
