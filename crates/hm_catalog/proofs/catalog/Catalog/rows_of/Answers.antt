use Rattle.std.proofs.Common.{◌∙◌}
use Rattle.hm_catalog.proofs.Spans.{span_by}
use Rattle.hm_catalog.proofs.catalog.Catalog.rows_of.Goals as goal

pub returns : goal.returns
returns c =
    rw (← c.self.view_is) (c.new.ensures ∙ span_by _ c.in_order.ensures.same c.args.span c.self.inside.pairs.pairs c.iter_from.result _ c.in_order.ensures.order c.start.ensures c.iter_from.ensures)
