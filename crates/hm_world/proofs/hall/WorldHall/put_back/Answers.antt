use Rattle.hm_world.specs.Scene.{scene_of}
use Rattle.hm_world.proofs.Halls.{put_back_gets}
use Rattle.hm_world.proofs.hall.WorldHall.put_back.Goals as goal

pub returns-clause-back : goal.returns-clause-back
returns-clause-back g c =
    put_back_gets (scene_of g.R.Recorder.kept c.args.self.now) (scene_of g.R.Recorder.kept c.put_back.new.self) c.args.taken c.put_back.ensures.returns
