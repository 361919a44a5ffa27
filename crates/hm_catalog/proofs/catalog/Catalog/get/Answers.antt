use Rattle.std.proofs.Common.{None, Some, ◌∙◌}
use Rattle.hm_catalog.proofs.Order.{get_by}
use Rattle.hm_catalog.proofs.catalog.Catalog.get.Goals as goal

pub returns-in_err-get : goal.returns-in_err-get
returns-in_err-get g c =
    rw (c.from_residual.ensures, ← c.self.view_is)
    (get_by _ c.in_order.ensures.same c.self.inside.pairs.pairs (g.S.Sought.stands_for c.args.key.now) None c.in_order.ensures.order c.in_err-get.ensures)

pub returns : goal.returns
returns g c =
    rw (← c.self.view_is)
    (c.as_ref.ensures.value ∙ get_by _ c.in_order.ensures.same c.self.inside.pairs.pairs (g.S.Sought.stands_for c.args.key.now) (Some c.in_ok-get.field-0.now) c.in_order.ensures.order c.in_ok-get.ensures)
