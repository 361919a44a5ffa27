use Rattle.hm_roster.specs.Desk.{IsSameButBook}
use Rattle.hm_roster.specs.Opening.{IsBookBelow}
use Rattle.hm_roster.proofs.desk.Desk.open_rows.Given as goal

abbrev pub invariant-loop-pid : goal.invariant-loop-pid
invariant-loop-pid l = record {
  below : IsBookBelow l.records.past l.self.book.rows l.pid;
  same : IsSameButBook l.fn.self l.self;
}
