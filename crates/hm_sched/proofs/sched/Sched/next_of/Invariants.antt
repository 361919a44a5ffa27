use Rattle.std.proofs.Common.{length}
use Rattle.hm_sched.specs.Queues.{IsSameRoom, members}
use Rattle.hm_sched.proofs.Passing.{IsPassing}
use Rattle.hm_sched.proofs.sched.Sched.next_of.Given as goal

abbrev pub invariant-loop-pid : goal.invariant-loop-pid
invariant-loop-pid g l = record {
  passing : IsPassing l.book.rows l.fn.self.lists l.self.lists l.queue l.fn.steps l.steps;
  room : IsSameRoom l.fn.self l.self;
}

abbrev pub decreases-loop-pid : goal.decreases-loop-pid
decreases-loop-pid g l = length (members l.self.lists l.queue)
