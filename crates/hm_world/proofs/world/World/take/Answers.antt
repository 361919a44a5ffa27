use Rattle.std.proofs.Common.{None, Ok, Option, refl, subst, sym}
use Rattle.hm_hall.specs.declared.hall.Task.TheVariants as task_is
use Rattle.hm_hall.specs.declared.taken.Taken.{Taken}
use Rattle.hm_exec.specs.Claiming.{AnswersClaim}
use Rattle.hm_exec.specs.Moment.{Moment}
use Rattle.hm_exec.specs.View.{moment_of}
use Rattle.hm_world.specs.Scene.{WorldView, scene_of, scene_with}
use Rattle.hm_world.specs.Taking.{Takes}
use Rattle.hm_world.proofs.world.World.take.Goals as goal

pub without_claim-requires : goal.without_claim-requires
without_claim-requires g c =
    let old = moment_of g.R.Recorder.kept c.self.inside.exec in
    let new = moment_of g.R.Recorder.kept c.claim.new.self in
    let none = subst (λ (o : Option Taken). AnswersClaim old (Ok o) new) c.in-None.is c.in_ok-taken.ensures.answers in
    record { none = subst (λ (m : Moment). AnswersClaim m (Ok None) m) (sym none.2) (none.0, none.1, refl) }

pub returns-in-Some-clause-takes : goal.returns-in-Some-clause-takes
returns-in-Some-clause-takes g c =
    let old = moment_of g.R.Recorder.kept c.self.inside.exec in
    let new = moment_of g.R.Recorder.kept c.claim.new.self in
    let taken = subst (λ (o : Option Taken). AnswersClaim old (Ok o) new) c.in-Some.is c.in_ok-taken.ensures.answers in
    subst (λ (v : WorldView _). Takes (scene_of g.R.Recorder.kept v) (Ok (task_is.Run c.in-Some.taken)) (scene_with (g.R.Recorder.kept c.claim.new.self.recorder) c.claim.new.self.claimed c.self.inside.fleet)) c.self.view_is (taken, refl)
