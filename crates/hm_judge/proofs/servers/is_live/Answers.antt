use Rattle.std.proofs.Common.{ap, ◌∙◌}
use Rattle.hm_model.specs.Standings.{is_live_in}
use Rattle.hm_judge.proofs.servers.is_live.Goals as goal

pub returns : goal.returns
returns c = c.live.ensures ∙ ap (λ l. is_live_in l c.args.server.now) c.standings.ensures.are ∙ c.standings.ensures.tell.live c.args.server.now
