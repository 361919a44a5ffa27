use Rattle.hm_sched.proofs.Waking.{joins}
use Rattle.hm_sched.proofs.sched.Sched.join.Goals as goal

pub returns-clause-joins : goal.returns-clause-joins
returns-clause-joins g c = joins c.args.self.now.lists c.push.new.self.lists c.args.queue c.args.pid c.push.ensures.list
