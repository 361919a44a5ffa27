use Rattle.std.proofs.Common.{◌∙◌, ap, if◌then◌else◌, Some}
use Rattle.std.specs.Ordering.{is_eq}
use Rattle.hm_names.specs.Order.{table_cmp}
use Rattle.hm_index.specs.Index.{find}
use Rattle.hm_groups.specs.Groups.{GroupsView}
use Rattle.hm_groups.proofs.Changed.{put_table}
use Rattle.hm_groups.proofs.groups.Groups.table.Goals as goal

pub returns-clause-put : goal.returns-clause-put
returns-clause-put c =
    let f = c.self.inside in
    let same = ap (λ (t : GroupsView). t.tables) c.self.view_is in
    rw (← same) (put_table f.tables.pairs c.set.new.self.pairs c.args.table c.args.name (λ other. c.set.ensures.pairs other ∙ ap (λ l. if is_eq (table_cmp c.args.table other) then Some c.args.name else find table_cmp l other) c.reserve.ensures.pairs))
