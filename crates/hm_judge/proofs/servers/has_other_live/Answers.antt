use Rattle.std.proofs.Common.{ap, ◌∙◌}
use Rattle.hm_places.specs.Servers.{has_other_live_in}
use Rattle.hm_judge.proofs.servers.has_other_live.Goals as goal

pub returns : goal.returns
returns c = c.has_other_live.ensures ∙ ap (λ l. has_other_live_in l c.args.server.now) c.standings.ensures.are ∙ c.standings.ensures.tell.others c.args.server.now
