use Rattle.std.proofs.Common.{codes, filter, map, ap}
use Rattle.hm_show.specs.Procs.{has_no_parent, proc_line, shown}
use Rattle.hm_show.proofs.Tables.{table_said}
use Rattle.hm_show.proofs.proc_lines.procs.Goals as goal

pub returns : goal.returns
returns c =
    table_said (codes "procs") c.args.records.now.past c.args.entries _ _ c.in_ok-root_lines.field-0 c.into_table.result c.requires c.in_ok-root_lines.ensures
    (ap (λ J. map proc_line (filter has_no_parent (shown J))) c.procedures.ensures.past)
    c.into_table.ensures
