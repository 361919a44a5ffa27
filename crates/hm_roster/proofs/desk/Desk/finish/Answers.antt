use Rattle.hm_tied.proofs.Calls.{end_owes}
use Rattle.hm_roster.specs.Roster.{number_on, roster_of}
use Rattle.hm_roster.proofs.desk.Desk.finish.Goals as goal

pub returns-clause-owes : goal.returns-clause-owes
returns-clause-owes g c before debts legal over owes =
    end_owes before (number_on c.args.self.now) (roster_of c.args.self.now) debts c.leave.new.self.lists c.freed.new.self.lists c.release.new.self.rows c.args.pid.0 legal owes over c.leave.ensures.leaves c.release.ensures.rows c.freed.ensures.wakes
