use Rattle.std.proofs.Common.{refl, subst, sym}
use Rattle.hm_exec.specs.View.{moment_of}
use Rattle.hm_model.specs.Base.{IsBegun}
use Rattle.hm_world.proofs.Entered.{IsQuiet, submit_enters}
use Rattle.hm_world.proofs.Keeps.{sound_quiet}
use Rattle.hm_world.proofs.world.World.submit.Goals as goal

pub invariant_of-self : goal.invariant_of-self
invariant_of-self g c =
    sound_quiet _ _ _ _ c.self.invariant
    (submit_enters IsQuiet (moment_of g.R.Recorder.kept c.self.inside.exec) (moment_of g.R.Recorder.kept c.submit.new.self) c.args.nonce c.args.request (subst IsBegun (sym c.state.ensures) c.journal.ensures.begun) (refl, (λ o. tt), refl) c.submit.result c.submit.ensures.answers)
