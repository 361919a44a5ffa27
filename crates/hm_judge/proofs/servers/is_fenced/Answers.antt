use Rattle.std.proofs.Common.{ap, ◌∙◌}
use Rattle.hm_places.specs.Servers.{is_fenced_in}
use Rattle.hm_judge.proofs.servers.is_fenced.Goals as goal

pub returns : goal.returns
returns c = c.fenced.ensures ∙ ap (λ l. is_fenced_in l c.args.server.now) c.standings.ensures.are ∙ c.standings.ensures.tell.are_fenced c.args.server.now
