use Rattle.std.proofs.Common.{ℕ, arith, refl, subst, ◌∙◌}
use Rattle.hm_roster.specs.Roster.{Owes, number_on, roster_of, paid_from}
use Rattle.hm_roster.proofs.Ranging.{begins, goes_on, same_on}
use Rattle.hm_roster.proofs.desk.Desk.line_up_from.Goals as goal

pub loop-pid-init : goal.loop-pid-init
loop-pid-init g c = record {
  owes = λ debts owes. begins c.args.records.now.past (number_on c.args.self.now) (roster_of c.args.self.now) debts c.args.low owes;
  same = record { claimed = refl; numbers = refl; pids = refl; servers = refl };
  rows = refl;
}

pub loop-pid-preserved : goal.loop-pid-preserved
loop-pid-preserved g c = record {
  owes = λ debts owes.
      goes_on c.args.records.now.past (number_on c.line_up.new.self) (roster_of c.line_up.new.self) debts c.args.low c.loop-pid.pid
      (c.line_up.ensures.owes (paid_from debts c.args.low c.loop-pid.pid) (c.loop-pid.invariant.owes debts owes));
  same = same_on c.args.self.now c.loop-pid.self c.line_up.new.self c.loop-pid.invariant.same c.line_up.ensures.same;
  rows = c.line_up.ensures.rows ∙ c.loop-pid.invariant.rows;
}

pub returns-clause-owes : goal.returns-clause-owes
returns-clause-owes g c debts owes =
    let test = c.loop-pid-test.false in
    let end = c.loop-pid.auto in
    subst (λ (high : ℕ). Owes c.args.records.now.past c.loop-pid.self (paid_from debts c.args.low high)) (omega (arith, test, end)) (c.loop-pid.invariant.owes debts owes)
