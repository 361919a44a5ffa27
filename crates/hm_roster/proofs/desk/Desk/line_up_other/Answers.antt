use Rattle.std.proofs.Common.{◌==◌, ℕ, ap, sym, ◌∙◌}
use Rattle.std.proofs.lemmas.Bool.{eqb-true, not-false}
use Rattle.hm_roster.specs.Roster.{number_on, roster_of}
use Rattle.hm_roster.proofs.Placing.{not_owed}
use Rattle.hm_roster.proofs.desk.Desk.line_up_other.Goals as goal

pub returns-else-ne-clause-owes : goal.returns-else-ne-clause-owes
returns-else-ne-clause-owes g c debts owed slack owes =
    let same = eqb-true c.args.root.0 c.args.pid.0 (not-false (c.args.root.0 == c.args.pid.0) (sym c.ne.ensures ∙ c.if-ne.false)) in
    not_owed c.args.records.now.past (number_on c.args.self.now) (roster_of c.args.self.now) debts c.args.root.0 owes (ap (λ (q : ℕ). debts.owed q) same ∙ owed) (ap (λ (q : ℕ). debts.slack q) same ∙ slack)
