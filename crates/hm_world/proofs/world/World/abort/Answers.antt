use Rattle.std.proofs.Common.{refl}
use Rattle.hm_exec.specs.View.{moment_of}
use Rattle.hm_world.proofs.Entered.{IsQuiet, abort_enters}
use Rattle.hm_world.proofs.Keeps.{sound_quiet}
use Rattle.hm_world.proofs.world.World.abort.Goals as goal

pub invariant_of-self : goal.invariant_of-self
invariant_of-self g c =
    sound_quiet _ _ _ _ c.self.invariant
    (abort_enters IsQuiet (moment_of g.R.Recorder.kept c.self.inside.exec) (moment_of g.R.Recorder.kept c.abort.new.self) c.args.pid (refl, (λ o. tt), refl) c.abort.result c.abort.ensures.answers)
