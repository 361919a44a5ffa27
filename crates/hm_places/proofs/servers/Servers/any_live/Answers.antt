use Rattle.std.proofs.Common.{ap, not, vec_len, ◌∙◌, arith}
use Rattle.hm_places.specs.Servers.{ServersView, has_live_in}
use Rattle.hm_places.proofs.Live.{any_number}
use Rattle.hm_places.proofs.servers.Servers.any_live.Goals as goal

pub returns : goal.returns
returns c =
    ap not c.is_empty.ensures ∙ any_number c.self.inside.rows.came c.self.inside.rows.pairs c.self.inside.live.items c.self.invariant.live c.self.invariant.rising (vec_len c.self.inside.live) (omega (arith, c.self.inside.live.ok.0))
    ∙ ap (λ (t : ServersView). has_live_in t.servers) c.self.view_is
