use Rattle.std.proofs.Common.{sym, ◌∙◌}
use Rattle.std.proofs.lemmas.Bool.{true≢false}
use Rattle.hm_roster.specs.Roster.{number_on, roster_of}
use Rattle.hm_roster.proofs.Placing.{idle, readied, suspended}
use Rattle.hm_roster.proofs.desk.Desk.place.Goals as goal

pub returns-then-can_go-clause-owes : goal.returns-then-can_go-clause-owes
returns-then-can_go-clause-owes g c debts owes =
    readied c.args.records.now.past (number_on c.args.self.now) (roster_of c.args.self.now) debts c.args.pid.0 owes c.can_go.ensures.legal c.requires.opened c.requires.unclaimed c.ready.new.self.lists c.is_of_crash-servers.result c.ready.ensures.joins

pub returns-then-awaits-clause-owes : goal.returns-then-awaits-clause-owes
returns-then-awaits-clause-owes g c debts owes =
    suspended c.args.records.now.past (number_on c.args.self.now) (roster_of c.args.self.now) debts c.args.pid.0 owes c.can_go.ensures.legal c.requires.opened c.requires.unclaimed c.suspend.new.self.lists c.number_called-server.result c.number_called-server.ensures.number
    (λ go. true≢false (sym (c.can_go.ensures.go.1 go) ∙ c.if-can_go.false)) c.suspend.ensures.joins

pub returns-else-awaits-clause-owes : goal.returns-else-awaits-clause-owes
returns-else-awaits-clause-owes g c debts owes =
    idle c.args.records.now.past (number_on c.args.self.now) (roster_of c.args.self.now) debts c.args.pid.0 owes (λ go. true≢false (sym (c.can_go.ensures.go.1 go) ∙ c.if-can_go.false))
    (λ waits. true≢false (sym ((c.awaits.ensures (λ go. true≢false (sym (c.can_go.ensures.go.1 go) ∙ c.if-can_go.false))).1 waits) ∙ c.if-awaits.false))
