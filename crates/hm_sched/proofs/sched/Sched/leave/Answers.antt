use Rattle.std.proofs.Common.{rules}
use Rattle.hm_sched.specs.Queues.{StandsNowhere}
use Rattle.hm_sched.proofs.Waking.{leaves, same_without}
use Rattle.hm_sched.proofs.sched.Sched.leave.Goals as goal

pub returns-then-is_some-clause-leaves : goal.returns-then-is_some-clause-leaves
returns-then-is_some-clause-leaves g c = leaves c.args.self.now.lists c.take_out.new.self.lists c.args.pid.0 c.take_out.ensures.lists

pub returns-else-is_some-clause-lists : goal.returns-else-is_some-clause-lists
returns-else-is_some-clause-lists g c =
    let nowhere : StandsNowhere c.args.self.now.lists c.args.pid.0 = search rules in
    same_without c.args.self.now.lists c.args.pid.0 nowhere
