use Rattle.std.proofs.Common.{ap, ◌∙◌}
use Rattle.hm_places.specs.Servers.{has_live_in}
use Rattle.hm_judge.proofs.servers.has_live.Goals as goal

pub returns : goal.returns
returns c = c.any_live.ensures ∙ ap has_live_in c.standings.ensures.are ∙ c.standings.ensures.tell.any
