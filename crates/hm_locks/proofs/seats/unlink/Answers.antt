use Rattle.hm_locks.proofs.Places.{unlinked_in}
use Rattle.hm_locks.proofs.seats.unlink.Goals as goal

pub returns-clause-lists : goal.returns-clause-lists
returns-clause-lists g c l n = rw c.unlink.ensures.lists (unlinked_in c.args.lists.now.lists c.args.node l n)
