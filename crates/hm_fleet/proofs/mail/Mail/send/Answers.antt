use Rattle.std.proofs.Common.{◌∙◌}
use Rattle.hm_fleet.proofs.Travelling.{sent}
use Rattle.hm_fleet.proofs.mail.Mail.send.Goals as goal

pub returns-clause-travels : goal.returns-clause-travels
returns-clause-travels g c =
    let f = c.self.inside in
    rw (c.push_reserved.ensures.items, c.push_back_reserved.ensures.items, ← c.self.view_is) (sent f.all.items c.args.item f.places.items c.len.result c.self.invariant (c.len.ensures ∙ f.all.ok.0))
