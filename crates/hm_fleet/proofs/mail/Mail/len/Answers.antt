use Rattle.std.proofs.Common.{◌∙◌, sym}
use Rattle.hm_fleet.proofs.Travelling.{count}
use Rattle.hm_fleet.proofs.mail.Mail.len.Goals as goal

pub returns-clause-count : goal.returns-clause-count
returns-clause-count g c =
    let f = c.self.inside in
    rw (← c.self.view_is) (c.len.ensures ∙ f.places.ok.0 ∙ sym (count f.all.items f.places.items c.self.invariant))
