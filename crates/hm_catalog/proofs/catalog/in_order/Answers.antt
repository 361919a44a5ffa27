use Rattle.hm_catalog.proofs.Order.{in_order_by}
use Rattle.hm_catalog.proofs.catalog.in_order.Goals as goal

pub returns-clause-order : goal.returns-clause-order
returns-clause-order c =
    in_order_by _ (λ i a b. c.keys_order_by_name.ensures.order a b i) c.view.result c.args.pairs.now.pairs c.view.ensures c.len-count.ensures.rising
