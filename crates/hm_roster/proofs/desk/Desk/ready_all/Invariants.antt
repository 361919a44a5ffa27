use Rattle.hm_roster.specs.Opening.{IsReadyBelow}
use Rattle.hm_roster.specs.Roster.{IsSameBut}
use Rattle.hm_roster.proofs.desk.Desk.ready_all.Given as goal

abbrev pub invariant-loop-pid : goal.invariant-loop-pid
invariant-loop-pid l = record {
  below : IsReadyBelow l.records.past l.self l.pid;
  same : IsSameBut l.fn.self l.self;
}
