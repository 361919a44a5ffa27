use Rattle.hm_base.proofs.OpenServed.{served_tell}
use Rattle.hm_base.proofs.whole.regions_served.Goals as goal

pub returns : goal.returns
returns c =
    let tells = served_tell c.places_follow.ensures.tell c.servers_follow.ensures.tell c.args.records.now.past c.procedures-legal.ensures.legal in
    let so = rw (c.servers.ensures, c.places.ensures) at c.are_served.ensures in
    (λ e. tells.0 (so.0 e), λ served. so.1 (tells.1 served))
