use Rattle.std.proofs.Common.{Err, ◌∙◌, ap, subst}
use Rattle.std.proofs.lemmas.Result.{err_from_is_err_and}
use Rattle.hm_exec.specs.View.{moment_of}
use Rattle.hm_fleet.specs.Fleet.{outside_of}
use Rattle.hm_world_model.specs.Outside.{started}
use Rattle.hm_world.specs.Acts.{Starts}
use Rattle.hm_world.specs.Scene.{WorldView, scene_of, scene_with}
use Rattle.hm_world.proofs.Entered.{not_up_enters, up_enters}
use Rattle.hm_world.proofs.Keeps.{sound_quiet, sound_same, sound_started}
use Rattle.hm_world.proofs.Scenes.{not_started, scene_is}
use Rattle.hm_world.proofs.world.World.start.Goals as goal

pub invariant_of-self-in_err-down : goal.invariant_of-self-in_err-down
invariant_of-self-in_err-down g c =
    let two = not_up_enters (moment_of g.R.Recorder.kept c.self.inside.exec) (moment_of g.R.Recorder.kept c.server_up.new.self) c.args.server c.in_err-down.field-0.0 c.in_err-down.ensures.answers in
    let same = c.ready.ensures.same in
    sound_quiet two.0 _ c.ready.new.self _ (sound_quiet _ two.0 c.ready.new.self _ (sound_same _ c.self.inside.fleet c.ready.new.self _ c.self.invariant same.outside same.wire same.waiting) two.1) two.2

pub invariant_of-self-2 : goal.invariant_of-self-2
invariant_of-self-2 g c =
    let up = up_enters (moment_of g.R.Recorder.kept c.self.inside.exec) (moment_of g.R.Recorder.kept c.server_up.new.self) c.args.server c.in_ok-down.down c.in_ok-down.ensures.answers in
    let same = c.ready.ensures.same in
    let between = up.0 in
    sound_started between (moment_of g.R.Recorder.kept c.server_up.new.self) c.ready.new.self c.start.new.self c.self.inside.due.items c.args.server
    (sound_quiet _ between.kept c.ready.new.self _ (sound_same _ c.self.inside.fleet c.ready.new.self _ c.self.invariant same.outside same.wire same.waiting) up.1) up.2
    (c.start.ensures.outside ∙ ap (started (outside_of c.ready.new.self)) c.in-Ok.ensures.newcomer) c.start.ensures.wire c.start.ensures.waiting

pub returns-in_err-down-clause-starts : goal.returns-in_err-down-clause-starts
returns-in_err-down-clause-starts g c =
    let kept = g.R.Recorder.kept in
    let exec = c.server_up.new.self in
    let was = c.self.inside.exec in
    let fleet = c.self.inside.fleet in
    let same = c.ready.ensures.same in
    let new = scene_with (kept exec.recorder) exec.claimed c.ready.new.self in
    let only = scene_is (kept exec.recorder) exec.claimed c.ready.new.self (outside_of fleet) fleet.wire fleet.waiting same.outside same.wire same.waiting in
    let p = err_from_is_err_and c.from_residual.result c.from_residual.ensures.1 in
    rw (p.1, p.2)
    (subst (λ (v : WorldView _). Starts (scene_of kept v) c.args.server (Err c.in_err-down.field-0.0) new) c.self.view_is
    (not_started (scene_with (kept was.recorder) was.claimed fleet) new c.args.server c.in_err-down.field-0.0 c.in_err-down.ensures.answers only))
