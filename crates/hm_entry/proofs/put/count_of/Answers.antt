use Rattle.std.proofs.Common.{arith}
use Rattle.hm_entry.proofs.Room.{at_least}
use Rattle.hm_entry.proofs.put.count_of.Goals as goal

pub overflow_cast-result : goal.overflow_cast-result
overflow_cast-result g c =
    omega (arith, at_least g.T.Put.spelled g.T.Put.spell g.met.T.Item.not_empty c.args.items.now c.requires.spelled)

pub returns-clause-small : goal.returns-clause-small
returns-clause-small g c =
    omega (arith, at_least g.T.Put.spelled g.T.Put.spell g.met.T.Item.not_empty c.args.items.now c.requires.spelled)
