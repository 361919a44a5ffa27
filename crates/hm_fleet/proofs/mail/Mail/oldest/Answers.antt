use Rattle.std.proofs.Common.{◌<◌, length, refl, arith}
use Rattle.hm_fleet.proofs.Travelling.{oldest}
use Rattle.hm_fleet.proofs.mail.Mail.oldest.Goals as goal

pub returns-in-Some : goal.returns-in-Some
returns-in-Some g c =
    let f = c.self.inside in
    let some = c.in-Some.ensures.variant.0 refl in
    let lt : 0 < length f.places.items = omega (arith, some, f.places.ok.0) in
    rw (← c.self.view_is) (oldest f.all.items f.places.items c.in-Some.place.now c.index.result.now c.self.invariant lt c.in-Some.ensures.lookup c.index.ensures)
