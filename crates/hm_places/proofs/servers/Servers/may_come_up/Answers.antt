use Rattle.std.proofs.Common.{◌≤◌, ◌∙◌, ap, sym, arith}
use Rattle.hm_names.specs.Server.{Server}
use Rattle.hm_places.specs.Servers.{ServersView}
use Rattle.hm_places.proofs.Addresses.{judged}
use Rattle.hm_places.proofs.servers.Servers.may_come_up.Goals as goal

pub returns-then-server-greatest-clause-refused : goal.returns-then-server-greatest-clause-refused
returns-then-server-greatest-clause-refused c =
    let f = c.self.inside in
    let same = ap (λ (t : ServersView). t.servers) c.self.view_is in
    let start = ap (λ (s : Server). s.start) c.server.view_is in
    let low : 1 ≤ c.args.server.now.start = omega (arith, start, c.server.invariant.1) in
    let le : c.args.server.now.start ≤ c.greatest_from-greatest.result = omega (arith, start, c.if-server-greatest.true) in
    (sym c.live.ensures ∙ c.if-live.false, (rw (← same) ((judged c.args.server.now low f.rows.pairs c.greatest_from-greatest.result c.greatest_from-greatest.ensures).old le), le))

pub returns-clause-may : goal.returns-clause-may
returns-clause-may c =
    let f = c.self.inside in
    let same = ap (λ (t : ServersView). t.servers) c.self.view_is in
    let start = ap (λ (s : Server). s.start) c.server.view_is in
    let low : 1 ≤ c.args.server.now.start = omega (arith, start, c.server.invariant.1) in
    record {
      unknown = sym c.live.ensures ∙ c.if-live.false;
      newest = rw (← same) ((judged c.args.server.now low f.rows.pairs c.greatest_from-greatest.result c.greatest_from-greatest.ensures).new (λ le. omega (arith, start, le, c.if-server-greatest.false)));
    }
