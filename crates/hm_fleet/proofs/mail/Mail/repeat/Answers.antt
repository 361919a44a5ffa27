use Rattle.std.proofs.Common.{◌∙◌}
use Rattle.hm_fleet.proofs.Travelling.{repeated, repeated_within}
use Rattle.hm_fleet.proofs.mail.Mail.repeat.Goals as goal

pub invariant_of-self : goal.invariant_of-self
invariant_of-self g c =
    let f = c.self.inside in
    rw c.push_below.ensures (repeated_within f.all.items f.places.items c.len-count.result (c.len-count.ensures ∙ f.all.ok.0) c.self.invariant)

pub returns-clause-travels : goal.returns-clause-travels
returns-clause-travels g c =
    let f = c.self.inside in
    rw (c.push_below.ensures, ← c.self.view_is) (repeated f.all.items f.places.items c.len-count.result (c.len-count.ensures ∙ f.all.ok.0))
