use Rattle.hm_locks.proofs.Places.{pushed_in}
use Rattle.hm_locks.proofs.seats.link.Goals as goal

pub returns-clause-lists : goal.returns-clause-lists
returns-clause-lists g c l n = rw c.push_back.ensures.lists (pushed_in c.args.lists.now.lists c.args.list c.args.node c.requires.list l n)
