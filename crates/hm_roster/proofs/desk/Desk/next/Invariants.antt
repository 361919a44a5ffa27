use Rattle.std.proofs.Common.{◌≡◌, ℕ}
use Rattle.hm_locks.specs.Book.{asks_in, row_of}
use Rattle.hm_roster.specs.Roster.{Follows, IsSameBut}
use Rattle.hm_roster.proofs.Looking.{IsLooking}
use Rattle.hm_sched.specs.Queues.{ready_count}
use Rattle.hm_roster.proofs.desk.Desk.next.Given as goal

abbrev pub invariant-loop-pid : goal.invariant-loop-pid
invariant-loop-pid g l = record {
  follows : Follows l.records.past l.self;
  same : IsSameBut l.fn.self l.self;
  asks : (q : ℕ) → asks_in (row_of l.self.book.rows q) ≡ asks_in (row_of l.fn.self.book.rows q);
  looks : IsLooking l.records.past l.fn.self.book.rows l.fn.self.sched.lists l.self.sched.lists l.fn.steps l.steps;
}

abbrev pub decreases-loop-pid : goal.decreases-loop-pid
decreases-loop-pid g l = ready_count l.self.sched.lists
