use Rattle.hm_catalog.proofs.Order.{order_present}
use Rattle.hm_catalog.proofs.catalog.Catalog.len.Goals as goal

pub returns-clause-order : goal.returns-clause-order
returns-clause-order c = rw (← c.self.view_is) (order_present c.self.inside.pairs.pairs c.in_order.ensures.order)
