use Rattle.std.proofs.Common.{refl, subst}
use Rattle.hm_world.specs.Scene.{WorldView, scene_of, scene_with}
use Rattle.hm_world.specs.Taking.{Returns}
use Rattle.hm_world.proofs.world.World.put_back.Goals as goal

pub returns-clause-returns : goal.returns-clause-returns
returns-clause-returns g c =
    subst (λ (v : WorldView _). Returns (scene_of g.R.Recorder.kept v) c.args.taken (scene_with (g.R.Recorder.kept c.put_back.new.self.recorder) c.put_back.new.self.claimed c.self.inside.fleet)) c.self.view_is (c.put_back.ensures.back, refl)
