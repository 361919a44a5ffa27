use Rattle.hm_data.proofs.KeyOrder.{keys_total}
use Rattle.hm_data.proofs.laws.keys_order_by_name.Goals as goal

pub returns-clause-total : goal.returns-clause-total
returns-clause-total c = keys_total
