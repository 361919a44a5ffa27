use Rattle.std.proofs.Common.{◌≢◌, ◌↔◌, IsTrue, None, false, subst, sym, true, ◌∙◌}
use Rattle.std.specs.Option.{option_map}
use Rattle.hm_locks.specs.Book.{AreChanged, holding, row_of}
use Rattle.hm_model.specs.Answers.{last_answer}
use Rattle.hm_tied.proofs.Calls.{give_back_ties}
use Rattle.hm_roster.specs.Roster.{number_on, roster_with}
use Rattle.hm_roster.proofs.Giving.{has_answered, set_twice}
use Rattle.hm_roster.proofs.Looking.{asks_stay}
use Rattle.hm_roster.proofs.desk.Desk.give_back.Goals as goal

pub returns-then-not-has_step-clause-owes : goal.returns-then-not-has_step-clause-owes
returns-then-not-has_step-clause-owes c =
    let J = c.args.records.now.past in
    let given = c.requires in
    let has = subst (λ K. IsTrue c.has_step.result ↔ (last_answer K c.args.pid.0 ≢ None)) c.procedures.ensures.past c.has_step.ensures in
    let none = has_answered (last_answer J c.args.pid.0) c.has_step.result has ∙ c.if-not-has_step.true in
    give_back_ties J (number_on c.args.self.now) (roster_with c.args.self.now given.was) c.give_up.new.self.rows c.args.pid.0 given.tied given.unclaimed
    (subst (λ b. AreChanged given.was c.args.pid.0 (option_map (holding b) (row_of given.was c.args.pid.0)) c.give_up.new.self.rows) (sym none)
    (set_twice given.was c.args.self.now.book.rows c.give_up.new.self.rows c.args.pid.0 true false given.taken c.give_up.ensures.rows))

pub returns-else-not-has_step-clause-owes : goal.returns-else-not-has_step-clause-owes
returns-else-not-has_step-clause-owes c =
    let J = c.args.records.now.past in
    let given = c.requires in
    let has = subst (λ K. IsTrue c.has_step.result ↔ (last_answer K c.args.pid.0 ≢ None)) c.procedures.ensures.past c.has_step.ensures in
    let some = has_answered (last_answer J c.args.pid.0) c.has_step.result has ∙ c.if-not-has_step.false in
    give_back_ties J (number_on c.args.self.now) (roster_with c.args.self.now given.was) c.args.self.now.book.rows c.args.pid.0 given.tied given.unclaimed
    (subst (λ b. AreChanged given.was c.args.pid.0 (option_map (holding b) (row_of given.was c.args.pid.0)) c.args.self.now.book.rows) (sym some) given.taken)

pub returns-then-not-has_step-clause-asks : goal.returns-then-not-has_step-clause-asks
returns-then-not-has_step-clause-asks c = asks_stay c.args.self.now.book.rows c.give_up.new.self.rows c.args.pid.0 false c.give_up.ensures.rows
