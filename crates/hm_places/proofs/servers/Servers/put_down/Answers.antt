use Rattle.std.proofs.Common.{ap, sym, false, refl}
use Rattle.hm_places.specs.Servers.{ServersView}
use Rattle.hm_places.proofs.Fleets.{none_older, down_keeps, gone_older, may_still}
use Rattle.hm_places.proofs.servers.Servers.put_down.Goals as goal

pub invariant_of-self : goal.invariant_of-self
invariant_of-self c =
    let f = c.self.inside in
    down_keeps f.rows.pairs c.change.new.self.pairs c.in-Some.server.now (record { live = false; fenced = c.fenced-fenced.result }) c.change.ensures.pairs f.rows.came c.change.new.self.came c.let_go.new.live.items refl c.change.ensures.keys c.change.ensures.rising c.let_go.ensures.live c.self.invariant.alone

pub returns-clause-may : goal.returns-clause-may
returns-clause-may c =
    let f = c.self.inside in
    let same = ap (λ (t : ServersView). t.servers) c.self.view_is in
    rw (← same) (may_still f.rows.came f.rows.pairs c.change.new.self.pairs f.live.items c.in-Some.server.now (record { live = false; fenced = c.fenced-fenced.result }) refl c.change.ensures.pairs c.self.invariant c.change.ensures.order)

pub returns-clause-alone : goal.returns-clause-alone
returns-clause-alone c = λ other first.
    let f = c.self.inside in
    let same = ap (λ (t : ServersView). t.servers) c.self.view_is in
    let was = rw (c.in-Some.is, ← same) at first in
    let live = rw (c.in-Some.is, ← same) at c.requires in
    gone_older f.rows.came f.rows.pairs c.change.new.self.pairs f.live.items c.in-Some.server.now (record { live = false; fenced = c.fenced-fenced.result }) refl c.change.ensures.pairs c.self.invariant c.change.ensures.rising live other (sym was)

pub returns-in_default-clause-alone : goal.returns-in_default-clause-alone
returns-in_default-clause-alone c = λ other first.
    let f = c.self.inside in
    let same = ap (λ (t : ServersView). t.servers) c.self.view_is in
    let was = rw (c.in_default.is, ← same) at first in
    rw (← same) (none_older f.rows.came f.rows.pairs f.live.items c.self.invariant other (sym was))
