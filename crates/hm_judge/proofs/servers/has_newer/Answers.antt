use Rattle.std.proofs.Common.{ap, ◌∙◌}
use Rattle.hm_places.specs.Servers.{has_newer_in}
use Rattle.hm_judge.proofs.servers.has_newer.Goals as goal

pub returns : goal.returns
returns c = c.has_newer.ensures ∙ ap (λ l. has_newer_in l c.args.server.now) c.standings.ensures.are ∙ c.standings.ensures.tell.newer c.args.server.now
