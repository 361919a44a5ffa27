use Rattle.std.proofs.Common.{◌∙◌, ap}
use Rattle.hm_index.specs.Index.{key_if}
use Rattle.hm_places.proofs.AtServers.{first_name}
use Rattle.hm_places.proofs.held.OnServerIterator.next.Goals as goal

pub unreachable-requires : goal.unreachable-requires
unreachable-requires c =
    let f = c.self.inside in
    let first = first_name c.self.inside.rows.now.came c.in_ok-number.number.now c.in_ok-number.rest.now (rw c.in_ok-number.ensures.cases.0 at c.self.invariant) in
    let e = ap key_if c.in-None.ensures ∙ first.is in
    cc
