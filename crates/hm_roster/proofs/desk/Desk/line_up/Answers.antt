use Rattle.std.proofs.Common.{ap, subst, sym, ◌∙◌}
use Rattle.hm_model.specs.Locks.{IsIn}
use Rattle.hm_model.specs.Phase.{ended}
use Rattle.hm_tied.specs.Calls.{without}
use Rattle.hm_roster.specs.Roster.{number_on, roster_of}
use Rattle.hm_roster.proofs.Placing.{claimed_is, ended_is, stands_is, woken}
use Rattle.hm_roster.proofs.desk.Desk.line_up.Goals as goal

pub returns-then-is_claimed-clause-owes : goal.returns-then-is_claimed-clause-owes
returns-then-is_claimed-clause-owes g c debts owes =
    claimed_is c.args.records.now.past (number_on c.args.self.now) (record { claimed = c.args.self.now.claimed.items; lists = c.wake.new.self.lists; rows = c.args.self.now.book.rows }) (record debts { slack = without debts.slack c.args.pid.0 }) c.args.pid.0
    (woken c.args.records.now.past (number_on c.args.self.now) (roster_of c.args.self.now) debts c.args.pid.0 owes c.wake.new.self.lists c.wake.ensures.wakes)
    (subst (IsIn c.args.pid.0) c.deref.ensures.value (c.is_claimed.ensures.0 c.if-is_claimed.true))

pub returns-then-has_ended-clause-owes : goal.returns-then-has_ended-clause-owes
returns-then-has_ended-clause-owes g c debts owes =
    ended_is c.args.records.now.past (number_on c.args.self.now) (record { claimed = c.args.self.now.claimed.items; lists = c.wake.new.self.lists; rows = c.args.self.now.book.rows }) (record debts { slack = without debts.slack c.args.pid.0 }) c.args.pid.0
    (woken c.args.records.now.past (number_on c.args.self.now) (roster_of c.args.self.now) debts c.args.pid.0 owes c.wake.new.self.lists c.wake.ensures.wakes)
    c.procedures-procedures.ensures.legal (ap (λ J. ended J c.args.pid.0) (sym c.procedures-procedures.ensures.past) ∙ sym c.has_ended.ensures ∙ c.if-has_ended.true)

pub returns-then-stands-clause-owes : goal.returns-then-stands-clause-owes
returns-then-stands-clause-owes g c debts owes =
    stands_is c.args.records.now.past (number_on c.args.self.now) (record { claimed = c.args.self.now.claimed.items; lists = c.wake.new.self.lists; rows = c.args.self.now.book.rows }) (record debts { slack = without debts.slack c.args.pid.0 }) c.args.pid.0
    (woken c.args.records.now.past (number_on c.args.self.now) (roster_of c.args.self.now) debts c.args.pid.0 owes c.wake.new.self.lists c.wake.ensures.wakes)
    (c.stands.ensures.0 c.if-stands.true)

pub returns-clause-owes : goal.returns-clause-owes
returns-clause-owes g c debts owes =
    c.place.ensures.owes (record debts { slack = without debts.slack c.args.pid.0 })
    (woken c.args.records.now.past (number_on c.args.self.now) (roster_of c.args.self.now) debts c.args.pid.0 owes c.wake.new.self.lists c.wake.ensures.wakes)
