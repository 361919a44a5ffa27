use Rattle.hm_index.proofs.Laid.{start-zero}
use Rattle.hm_index.proofs.order.Order.first.Goals as goal

pub returns-clause-first : goal.returns-clause-first
returns-clause-first c = start-zero c.args.self.now.blocks
