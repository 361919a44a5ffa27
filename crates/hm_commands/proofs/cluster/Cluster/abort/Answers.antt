use Rattle.std.proofs.Common.{subst}
use Rattle.std.specs.Result.{result_ok}
use Rattle.hm_world.specs.Scene.{WorldView}
use Rattle.hm_commands.specs.Commands.{Aborts}
use Rattle.hm_commands.specs.View.{scene_in}
use Rattle.hm_commands.proofs.Clusters.{abort_said}
use Rattle.hm_commands.proofs.cluster.Cluster.abort.Goals as goal

pub returns-clause-comes : goal.returns-clause-comes
returns-clause-comes g c =
    let old = scene_in c.self.inside.world in
    let new = scene_in c.abort-outcome.new.self in
    let answered = c.abort-outcome.ensures.answers in
    let told = abort_said old.exec new.exec c.state.result.now.past c.args.pid c.abort-outcome.result (result_ok c.tell_abort.result) c.tell_abort.ensures c.state.ensures answered in
    subst (λ (w : WorldView _). Aborts c.args.pid (scene_in w) (result_ok c.tell_abort.result) new) c.self.view_is (c.abort-outcome.result, answered, c.abort-outcome.ensures.rest, told)
