use Rattle.std.proofs.Common.{ap, sym, ◌∙◌}
use Rattle.hm_model.specs.Phase.{ended}
use Rattle.hm_roster.specs.Roster.{number_on, roster_of}
use Rattle.hm_roster.proofs.Placing.{goes_on}
use Rattle.hm_roster.proofs.desk.Desk.finish_if.Goals as goal

pub returns-then-has_ended-clause-owes : goal.returns-then-has_ended-clause-owes
returns-then-has_ended-clause-owes g c debts owes =
    c.finish.ensures.owes c.args.records.now.past debts c.procedures.ensures.legal (ap (λ J. ended J c.args.pid.0) (sym c.procedures.ensures.past) ∙ sym c.has_ended.ensures ∙ c.if-has_ended.true) owes

pub returns-else-has_ended-clause-owes : goal.returns-else-has_ended-clause-owes
returns-else-has_ended-clause-owes g c debts owes =
    goes_on c.args.records.now.past (number_on c.args.self.now) (roster_of c.args.self.now) debts c.args.pid.0 owes (c.requires.there, ap (λ J. ended J c.args.pid.0) (sym c.procedures.ensures.past) ∙ sym c.has_ended.ensures ∙ c.if-has_ended.false)
