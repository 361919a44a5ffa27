use Rattle.std.proofs.Common.{◌∙◌, ap, if◌then◌else◌, Some}
use Rattle.std.specs.Ordering.{is_eq}
use Rattle.hm_index.specs.Index.{find}
use Rattle.hm_groups.specs.Groups.{GroupsView, group_cmp, named}
use Rattle.hm_groups.proofs.Changed.{set_members, set_named}
use Rattle.hm_groups.proofs.groups.Groups.set.Goals as goal

pub returns-clause-set : goal.returns-clause-set
returns-clause-set c =
    let f = c.self.inside in
    let same = ap (λ (t : GroupsView). t.groups) c.self.view_is in
    rw (← same) (set_named f.groups.pairs c.set.new.self.pairs c.args.name c.of-members.result (λ other. c.set.ensures.pairs other ∙ ap (λ l. if is_eq (group_cmp (named c.args.name) other) then Some c.of-members.result else find group_cmp l other) c.in_ok-reserve.ensures.pairs))

pub returns-clause-members : goal.returns-clause-members
returns-clause-members c =
    let f = c.self.inside in
    let same = ap (λ (t : GroupsView). t.groups) c.self.view_is in
    rw (← same) (set_members f.groups.pairs c.set.new.self.pairs c.args.name c.of-members.result (λ other. c.set.ensures.pairs other ∙ ap (λ l. if is_eq (group_cmp (named c.args.name) other) then Some c.of-members.result else find group_cmp l other) c.in_ok-reserve.ensures.pairs) c.args.servers c.of-members.ensures)
