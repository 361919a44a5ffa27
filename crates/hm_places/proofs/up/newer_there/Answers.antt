use Rattle.std.proofs.Common.{sym, ◌∙◌}
use Rattle.hm_places.proofs.Newer.{newer_seen, newer_unseen}
use Rattle.hm_places.proofs.up.newer_there.Goals as goal

pub returns-in-Some : goal.returns-in-Some
returns-in-Some c = c.at_address.ensures ∙ newer_seen c.args.server.now c.args.rows.now.pairs c.in-Some.field-0.now c.next.new.self c.requires (sym c.iter_from.ensures ∙ c.in-Some.ensures.steps)

pub returns-in-None : goal.returns-in-None
returns-in-None c = newer_unseen c.args.server.now c.args.rows.now.pairs (sym c.iter_from.ensures ∙ c.in-None.ensures.steps.0)
