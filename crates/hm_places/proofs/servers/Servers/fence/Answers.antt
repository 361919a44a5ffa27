use Rattle.std.proofs.Common.{ap, true}
use Rattle.hm_places.specs.Servers.{ServersView}
use Rattle.hm_places.proofs.Fleets.{fence_keeps}
use Rattle.hm_places.proofs.servers.Servers.fence.Goals as goal

pub invariant_of-self : goal.invariant_of-self
invariant_of-self c =
    let f = c.self.inside in
    let same = ap (λ (t : ServersView). t.servers) c.self.view_is in
    fence_keeps f.rows.pairs c.change.new.self.pairs c.args.server.now (record { live = c.live-live.result; fenced = true }) c.change.ensures.pairs f.rows.came c.change.new.self.came f.live.items (rw same c.live-live.ensures) c.change.ensures.keys c.change.ensures.rising c.self.invariant
