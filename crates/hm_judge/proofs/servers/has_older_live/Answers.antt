use Rattle.std.proofs.Common.{ap, ◌∙◌}
use Rattle.hm_places.specs.Servers.{has_older_in}
use Rattle.hm_judge.proofs.servers.has_older_live.Goals as goal

pub returns : goal.returns
returns c = c.has_older_live.ensures ∙ ap (λ l. has_older_in l c.args.server.now) c.standings.ensures.are ∙ c.standings.ensures.tell.older c.args.server.now
