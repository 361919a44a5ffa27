use Rattle.std.proofs.Common.{ap, sym}
use Rattle.hm_places.specs.Servers.{ServersView}
use Rattle.hm_places.proofs.Fleets.{first_live}
use Rattle.hm_places.proofs.servers.Servers.older_of.Goals as goal

pub returns-clause-live : goal.returns-clause-live
returns-clause-live c =
    let f = c.self.inside in
    let same = ap (λ (t : ServersView). t.servers) c.self.view_is in
    rw (c.in_ok-copy.ensures, ← same) (first_live f.rows.pairs c.self.invariant.rising c.args.server.now c.in-Some.older.now (sym c.in-Some.ensures))
