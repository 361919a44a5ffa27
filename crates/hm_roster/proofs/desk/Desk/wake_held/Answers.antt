use Rattle.hm_tied.proofs.Calls.{wake_held_owes}
use Rattle.hm_roster.specs.Roster.{number_on, roster_of}
use Rattle.hm_roster.proofs.desk.Desk.wake_held.Goals as goal

pub returns-clause-owes : goal.returns-clause-owes
returns-clause-owes g c before debts owes = wake_held_owes before (number_on c.args.self.now) (roster_of c.args.self.now) debts c.wake_held.new.self.lists owes c.wake_held.ensures.wakes
