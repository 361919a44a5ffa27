use Rattle.std.proofs.Common.{List, Ok, ℕ, ◌∙◌, refl, subst, sym}
use Rattle.hm_exec.specs.View.{moment_of}
use Rattle.hm_model.specs.Locks.{IsIn}
use Rattle.hm_world.specs.Scene.{WorldView, scene_of, scene_with}
use Rattle.hm_world.specs.Sound.{IsSound}
use Rattle.hm_world.specs.Taking.{Gives}
use Rattle.hm_world.proofs.Given.{sound_given, sound_refused}
use Rattle.hm_world.proofs.world.World.give.Goals as goal

pub invariant_of-self-in_err-given : goal.invariant_of-self-in_err-given
invariant_of-self-in_err-given g c =
    let old = moment_of g.R.Recorder.kept c.self.inside.exec in
    let new = moment_of g.R.Recorder.kept c.commit.new.self in
    let fleet = c.self.inside.fleet in
    subst (λ (l : List ℕ). IsSound new.kept fleet l) (sym c.reserve.ensures.items) (sound_refused old new fleet c.self.inside.due.items c.args.taken c.args.out c.self.invariant c.in_err-given.field-0.0.1 c.in_err-given.ensures.answers.1)

pub invariant_of-self-2 : goal.invariant_of-self-2
invariant_of-self-2 g c =
    let old = moment_of g.R.Recorder.kept c.self.inside.exec in
    let new = moment_of g.R.Recorder.kept c.commit.new.self in
    sound_given old new c.self.inside.fleet c.self.inside.due.items c.args.taken c.args.out c.self.invariant c.push_if.new.self.items
    (λ q there. c.push_if.ensures.old q (subst (IsIn q) (sym c.reserve.ensures.items) there)) (λ on. c.push_if.ensures.new (c.is_some-calls.ensures ∙ on)) c.in_ok-given.given c.in_ok-given.ensures.answers

pub returns-clause-gives : goal.returns-clause-gives
returns-clause-gives g c =
    subst (λ (v : WorldView _). Gives (scene_of g.R.Recorder.kept v) c.args.taken c.args.out (Ok c.in_ok-given.given) (scene_with (g.R.Recorder.kept c.commit.new.self.recorder) c.commit.new.self.claimed c.self.inside.fleet)) c.self.view_is (c.in_ok-given.ensures.answers, refl)
