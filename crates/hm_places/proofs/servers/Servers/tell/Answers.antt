use Rattle.std.proofs.Common.{ap, refl}
use Rattle.hm_places.specs.Servers.{ServersView}
use Rattle.hm_places.proofs.Fleets.{newest_unknown, told_down, told_live}
use Rattle.hm_places.proofs.servers.Servers.tell.Goals as goal

pub spot_for-at-requires-clause-absent : goal.spot_for-at-requires-clause-absent
spot_for-at-requires-clause-absent c =
    let f = c.self.inside in
    let same = ap (λ (t : ServersView). t.servers) c.self.view_is in
    newest_unknown f.rows.pairs c.args.server (rw (← same) at c.requires.newest)

pub invariant_of-self : goal.invariant_of-self
invariant_of-self c =
    let f = c.self.inside in
    let same = ap (λ (t : ServersView). t.servers) c.self.view_is in
    rw c.put_at.ensures.items
    (told_live f.rows.came f.rows.pairs c.put-number.new.self.came c.put-number.new.self.pairs f.live.items c.args.server _ c.put-number.result
    (rw (← same) at c.requires.newest) c.self.invariant c.put-number.ensures.came c.put-number.ensures.same c.put-number.ensures.pairs c.put-number.ensures.rising
    c.spot_for-at.result (rw c.if-live.true refl) (rw (← same) at c.requires.alone) (rw c.deref.ensures.value at c.spot_for-at.ensures))

pub invariant_of-self-else-live : goal.invariant_of-self-else-live
invariant_of-self-else-live c =
    let f = c.self.inside in
    let same = ap (λ (t : ServersView). t.servers) c.self.view_is in
    told_down f.rows.came f.rows.pairs c.put-number.new.self.came c.put-number.new.self.pairs f.live.items c.args.server _ c.put-number.result
    (rw (← same) at c.requires.newest) c.self.invariant c.put-number.ensures.came c.put-number.ensures.same c.put-number.ensures.pairs c.put-number.ensures.rising (rw c.if-live.false refl)
