use Rattle.hm_world.specs.Scene.{scene_of}
use Rattle.hm_world.proofs.Halls.{give_answers}
use Rattle.hm_world.proofs.hall.WorldHall.give.Goals as goal

pub returns-clause-answers : goal.returns-clause-answers
returns-clause-answers g c =
    give_answers (record { all = c.parts_stand_first.ensures.all; parts = c.parts_stand_first.ensures.parts; grows = c.parts_stand_first.ensures.behind }) (scene_of g.R.Recorder.kept c.args.self.now) (scene_of g.R.Recorder.kept c.give.new.self) c.args.taken c.args.out c.give.result c.give.ensures.gives
