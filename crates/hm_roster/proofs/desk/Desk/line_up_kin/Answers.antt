use Rattle.hm_sched.specs.Moves.{pid_in}
use Rattle.hm_roster.specs.Roster.{paid, paid_if}
use Rattle.hm_roster.proofs.Placing.{own_out}
use Rattle.hm_roster.proofs.desk.Desk.line_up_kin.Goals as goal

pub returns-clause-owes : goal.returns-clause-owes
returns-clause-owes g c debts owes =
    let out = own_out debts c.args.pid.0 (pid_in c.args.parent) in
    c.line_up_other.ensures.owes (paid_if (paid debts c.args.pid.0) (pid_in c.args.parent)) out.0 out.1
    (c.line_up_if.ensures.owes (paid debts c.args.pid.0) (c.line_up.ensures.owes debts owes))
