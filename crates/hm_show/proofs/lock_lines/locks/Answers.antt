use Rattle.std.proofs.Common.{codes, map, ap, ◌∙◌}
use Rattle.hm_show.specs.Locks.{by_resource, lock_line}
use Rattle.hm_show.proofs.Tables.{table_said}
use Rattle.hm_show.proofs.lock_lines.locks.Goals as goal

pub returns : goal.returns
returns c =
    table_said (codes "locks") c.args.records.now.past c.args.entries _ _ c.in_ok-lock_lines.field-0 c.into_table.result c.requires c.in_ok-lock_lines.ensures
    (ap (map lock_line) (c.deref.ensures.value ∙ c.in_ok-sort_locks.ensures ∙ ap by_resource c.in_ok-held.ensures))
    c.into_table.ensures
