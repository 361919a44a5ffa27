use Rattle.std.proofs.Common.{◌≡◌, ◌⊎◌}
use Rattle.hm_names.specs.Server.{Server}
use Rattle.hm_model.specs.Locks.{IsIn}
use Rattle.hm_model.specs.Standings.{standings_of}
use Rattle.hm_model.specs.declared.standing.Standing.{Standing}
use Rattle.hm_roster.specs.Desk.{IsNumbered, IsRoomier}
use Rattle.hm_roster.specs.Roster.{HasLists}
use Rattle.hm_roster.proofs.desk.Desk.number_all.Given as goal

abbrev pub invariant-loop-server : goal.invariant-loop-server
invariant-loop-server l = record {
  numbered : (row : Server × Standing) → IsIn row (standings_of l.records.past) → IsIn row l.server-iterator ⊎ IsNumbered l.self row.0;
  below : HasLists l.self;
  roomier : IsRoomier l.fn.self l.self;
  pids : l.self.sched.pids ≡ l.fn.self.sched.pids;
}
