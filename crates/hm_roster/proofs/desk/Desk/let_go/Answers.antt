use Rattle.std.proofs.Common.{◌≢◌, ◌↔◌, IsTrue, None, arith, inl, inr, subst, ◌∙◌}
use Rattle.hm_model.specs.Answers.{last_answer}
use Rattle.hm_sched.specs.declared.queue.Queue.TheVariants.{Waits}
use Rattle.hm_roster.specs.Roster.{number_on, roster_of}
use Rattle.hm_roster.proofs.Desks.{enlisted_known}
use Rattle.hm_roster.proofs.Giving.{claimed_enlisted, claimed_nowhere, gives_up, has_answered, keeps_on, unanswered}
use Rattle.hm_roster.proofs.desk.Desk.let_go.Goals as goal

pub give_up-requires : goal.give_up-requires
give_up-requires g c = claimed_enlisted c.args.records.now.past (number_on c.args.self.now) (roster_of c.args.self.now) c.args.pid.0 c.requires.follows.tied c.requires.mine

pub returns-then-not-has_step-clause-owes : goal.returns-then-not-has_step-clause-owes
returns-then-not-has_step-clause-owes g c left fewer =
    let J = c.args.records.now.past in
    let has = subst (λ K. IsTrue c.has_step.result ↔ (last_answer K c.args.pid.0 ≢ None)) c.procedures.ensures.past c.has_step.ensures in
    gives_up J (number_on c.args.self.now) (roster_of c.args.self.now) left c.freed.new.self.lists c.give_up.new.self.rows c.args.pid.0 c.requires.follows.tied
    (unanswered (last_answer J c.args.pid.0) (has_answered (last_answer J c.args.pid.0) c.has_step.result has ∙ c.if-not-has_step.true)) fewer c.give_up.ensures.rows c.freed.ensures.wakes

pub returns-else-not-has_step-clause-owes : goal.returns-else-not-has_step-clause-owes
returns-else-not-has_step-clause-owes g c left fewer =
    let J = c.args.records.now.past in
    let has = subst (λ K. IsTrue c.has_step.result ↔ (last_answer K c.args.pid.0 ≢ None)) c.procedures.ensures.past c.has_step.ensures in
    keeps_on J (number_on c.args.self.now) (roster_of c.args.self.now) left c.args.pid.0 c.requires.follows.tied (has.0 c.if-not-has_step.false) fewer

pub returns-then-not-has_step-clause-nowhere : goal.returns-then-not-has_step-clause-nowhere
returns-then-not-has_step-clause-nowhere g c queue there =
    let none = claimed_nowhere c.args.records.now.past (number_on c.args.self.now) (roster_of c.args.self.now) c.args.pid.0 c.requires.follows.tied c.requires.mine in
    elim (c.freed.ensures.wakes.only queue c.args.pid.0 there) [ inl old ↦ none queue old | inr woken ↦ none (Waits c.args.pid.0) woken.1 ]

pub returns-else-not-has_step-clause-nowhere : goal.returns-else-not-has_step-clause-nowhere
returns-else-not-has_step-clause-nowhere g c = claimed_nowhere c.args.records.now.past (number_on c.args.self.now) (roster_of c.args.self.now) c.args.pid.0 c.requires.follows.tied c.requires.mine

pub freed-requires : goal.freed-requires
freed-requires g c =
    enlisted_known c.args.records.now.past c.procedures.ensures.legal c.args.self.now c.requires.follows c.args.pid.0
    (claimed_enlisted c.args.records.now.past (number_on c.args.self.now) (roster_of c.args.self.now) c.args.pid.0 c.requires.follows.tied c.requires.mine)

pub returns-then-not-has_step-clause-room : goal.returns-then-not-has_step-clause-room
returns-then-not-has_step-clause-room g c =
    let book = c.give_up.ensures.room in
    let sched = c.freed.ensures.room.room in omega (arith, book, sched)
