use Rattle.std.proofs.Common.{◌≡◌}
use Rattle.hm_roster.specs.Roster.{IsSameBut, Owes, paid_from}
use Rattle.hm_tied.specs.Tied.{Debts}
use Rattle.hm_roster.proofs.desk.Desk.line_up_from.Given as goal

abbrev pub invariant-loop-pid : goal.invariant-loop-pid
invariant-loop-pid g l = record {
  owes : (debts : Debts) → Owes l.records.past l.fn.self debts → Owes l.records.past l.self (paid_from debts l.fn.low l.pid);
  same : IsSameBut l.fn.self l.self;
  rows : l.self.book.rows ≡ l.fn.self.book.rows;
}
