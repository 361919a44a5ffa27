use Rattle.std.proofs.Common.{◌∙◌}
use Rattle.hm_model.specs.RowsSaid.{is_table_in}
use Rattle.hm_catalog.proofs.Spans.{any_by}
use Rattle.hm_catalog.proofs.catalog.Catalog.has_table.Goals as goal

pub returns : goal.returns
returns c = c.is_some.ensures ∙ any_by (is_table_in c.args.ns.now) c.args.self.now.rows c.rows_of.result c.next.new.self c.next.result c.next.ensures.steps c.rows_of.ensures
