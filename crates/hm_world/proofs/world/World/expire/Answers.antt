use Rattle.std.proofs.Common.{refl}
use Rattle.hm_world.proofs.Entered.{IsQuiet, down_enters}
use Rattle.hm_world.proofs.Keeps.{sound_quiet}
use Rattle.hm_world.proofs.world.World.expire.Goals as goal

pub invariant_of-self : goal.invariant_of-self
invariant_of-self g c = sound_quiet _ _ _ _ c.self.invariant (down_enters IsQuiet _ _ c.args.server.now (refl, (λ o. tt), refl) _ c.server_down.ensures.answers)
