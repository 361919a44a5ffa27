use Rattle.std.proofs.Common.{ap, sym, ◌∙◌}
use Rattle.hm_places.specs.Servers.{has_newer_in}
use Rattle.hm_roster.proofs.Numbered.{never_came}
use Rattle.hm_roster.proofs.desk.Desk.number_for.Goals as goal

pub returns : goal.returns
returns c =
    let J = c.args.records.now.past in
    never_came J c.args.server.now (sym ((c.servers_follow.ensures.tell J c.procedures-legal.ensures.legal).newer c.args.server.now) ∙ ap (λ l. has_newer_in l c.args.server.now) (sym c.servers.ensures) ∙ sym c.has_newer.ensures ∙ c.if-has_newer.false) c.next_number.result
