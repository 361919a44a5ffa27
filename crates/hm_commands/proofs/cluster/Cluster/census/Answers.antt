use Rattle.std.proofs.Common.{sym, ap, ◌∙◌}
use Rattle.hm_world.specs.Scene.{WorldView, past_in}
use Rattle.hm_commands.specs.Census.{census_of}
use Rattle.hm_commands.specs.View.{scene_in}
use Rattle.hm_commands.proofs.Counting.{census_said}
use Rattle.hm_commands.proofs.cluster.Cluster.census.Goals as goal

pub returns : goal.returns
returns g c =
    let past = c.state-state.result.now.past in
    sym (census_said past c.catalog.result.now.rows c.places.result.now.places c.last_pid.result c.count_regions-regions.result.0 c.count_regions-regions.result.1 (c.places_follow.ensures.tell past).0
    c.last_pid.ensures.last c.catalog.ensures c.places.ensures c.count_regions-regions.ensures.regions c.count_regions-regions.ensures.opened)
    ∙ ap census_of (sym c.state-state.ensures)
    ∙ ap (λ (world : WorldView _). census_of (past_in (scene_in world))) c.self.view_is
