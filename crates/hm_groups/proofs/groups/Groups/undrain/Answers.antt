use Rattle.std.proofs.Common.{ap}
use Rattle.hm_groups.specs.Groups.{GroupsView}
use Rattle.hm_groups.proofs.Changed.{drained_less}
use Rattle.hm_groups.proofs.groups.Groups.undrain.Goals as goal

pub returns-then-is_some-clause-drained : goal.returns-then-is_some-clause-drained
returns-then-is_some-clause-drained c =
    let f = c.self.inside in
    let same = ap (λ (t : GroupsView). t.drained) c.self.view_is in
    rw (← same) (drained_less f.drained.pairs c.change.new.self.pairs c.args.server.now c.change.ensures.pairs)
