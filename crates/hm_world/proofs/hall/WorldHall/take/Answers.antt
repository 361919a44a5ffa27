use Rattle.hm_world.specs.Scene.{scene_of}
use Rattle.hm_world.proofs.Halls.{take_answers, take_rests}
use Rattle.hm_world.proofs.hall.WorldHall.take.Goals as goal

pub returns-clause-answers : goal.returns-clause-answers
returns-clause-answers g c =
    take_answers (record { all = c.parts_stand_first.ensures.all; parts = c.parts_stand_first.ensures.parts; grows = c.parts_stand_first.ensures.behind }) (scene_of g.R.Recorder.kept c.args.self.now) (scene_of g.R.Recorder.kept c.take_next.new.world) c.take_next.result c.take_next.ensures.takes

pub returns-clause-idle : goal.returns-clause-idle
returns-clause-idle g c =
    take_rests (record { all = c.parts_stand_first.ensures.all; parts = c.parts_stand_first.ensures.parts; grows = c.parts_stand_first.ensures.behind }) (scene_of g.R.Recorder.kept c.args.self.now) (scene_of g.R.Recorder.kept c.take_next.new.world) c.take_next.result c.take_next.ensures.takes
