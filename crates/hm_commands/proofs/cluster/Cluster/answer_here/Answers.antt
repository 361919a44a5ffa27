use Rattle.std.proofs.Common.{refl}
use Rattle.std.specs.Result.{result_ok}
use Rattle.hm_commands.specs.Scenes.{journal_at}
use Rattle.hm_commands.specs.View.{scene_in}
use Rattle.hm_commands.proofs.Clusters.{submit_ran}
use Rattle.hm_commands.proofs.Ran.{ran_idle, run_none}
use Rattle.hm_commands.proofs.cluster.Cluster.answer_here.Goals as goal

pub returns-in-Some-clause-ran : goal.returns-in-Some-clause-ran
returns-in-Some-clause-ran g c = ran_idle _ (journal_at (scene_in c.args.self.now)) (journal_at (scene_in c.args.self.now)) refl (run_none _ _)

pub returns-in-Ok-clause-ran : goal.returns-in-Ok-clause-ran
returns-in-Ok-clause-ran g c =
    submit_ran _ c.in-Ok.nonce c.in-Ok.request (scene_in c.args.self.now) (result_ok c.submit.result) (scene_in c.submit.new.self) c.submit.ensures.comes (run_none _ _)
