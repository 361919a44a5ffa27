use Rattle.hm_world.specs.Scene.{scene_of}
use Rattle.hm_world.proofs.Halls.{carry_answers}
use Rattle.hm_world.proofs.hall.WorldHall.carry.Goals as goal

pub returns-clause-answers : goal.returns-clause-answers
returns-clause-answers g c =
    carry_answers (record { all = c.parts_stand_first.ensures.all; parts = c.parts_stand_first.ensures.parts; grows = c.parts_stand_first.ensures.behind }) (scene_of g.R.Recorder.kept c.args.self.now) (scene_of g.R.Recorder.kept c.carry.new.self) c.carry.result c.carry.ensures.carries
