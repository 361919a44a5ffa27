use Rattle.std.proofs.Common.{◌∙◌, ap, true, if◌then◌else◌, Some}
use Rattle.std.specs.Ordering.{is_eq}
use Rattle.hm_names.specs.Order.{server_cmp}
use Rattle.hm_index.specs.Index.{find}
use Rattle.hm_groups.specs.Groups.{GroupsView}
use Rattle.hm_groups.proofs.Changed.{drained_more}
use Rattle.hm_groups.proofs.groups.Groups.drain.Goals as goal

pub returns-clause-drained : goal.returns-clause-drained
returns-clause-drained c =
    let f = c.self.inside in
    let same = ap (λ (t : GroupsView). t.drained) c.self.view_is in
    rw (← same) (drained_more f.drained.pairs c.set.new.self.pairs c.args.server (λ other. c.set.ensures.pairs other ∙ ap (λ l. if is_eq (server_cmp c.args.server other) then Some true else find server_cmp l other) c.in_ok-reserve.ensures.pairs))
