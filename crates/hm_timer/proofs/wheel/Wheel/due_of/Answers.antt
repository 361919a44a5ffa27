use Rattle.std.proofs.Common.{sym, ap, subst, arith}
use Rattle.hm_timer.specs.Timers.{View, Has}
use Rattle.hm_timer.proofs.Wheels.{one_due, not_set, unknown, due_is, place_known}
use Rattle.hm_timer.proofs.wheel.Wheel.due_of.Goals as goal

pub returns-then-pid-len-clause-due : goal.returns-then-pid-len-clause-due
returns-then-pid-len-clause-due c = λ d h.
    unknown c.self.inside.tick c.self.inside.dues.items c.self.inside.lists c.self.invariant.wheel c.args.pid.0 (omega arith) d (subst (λ ts. Has ts c.args.pid.0 d) (sym (ap (λ (v : View). v.set) c.self.view_is)) h)

pub returns-then-pid-len-clause-one : goal.returns-then-pid-len-clause-one
returns-then-pid-len-clause-one c = λ p d e a b. one_due c.self.inside.tick c.self.inside.dues.items c.self.inside.lists c.self.invariant.wheel p d e (subst (λ ts. Has ts p d) (sym (ap (λ (v : View). v.set) c.self.view_is)) a) (subst (λ ts. Has ts p e) (sym (ap (λ (v : View). v.set) c.self.view_is)) b)

pub returns-in_err-list_of-clause-due : goal.returns-in_err-list_of-clause-due
returns-in_err-list_of-clause-due c = rw c.from_residual.ensures (λ d h.
    not_set c.self.inside.tick c.self.inside.dues.items c.self.inside.lists c.self.invariant.wheel c.args.pid.0 c.in_err-list_of.ensures.list d (subst (λ ts. Has ts c.args.pid.0 d) (sym (ap (λ (v : View). v.set) c.self.view_is)) h))

pub returns-in_err-list_of-clause-one : goal.returns-in_err-list_of-clause-one
returns-in_err-list_of-clause-one c = λ p d e a b. one_due c.self.inside.tick c.self.inside.dues.items c.self.inside.lists c.self.invariant.wheel p d e (subst (λ ts. Has ts p d) (sym (ap (λ (v : View). v.set) c.self.view_is)) a) (subst (λ ts. Has ts p e) (sym (ap (λ (v : View). v.set) c.self.view_is)) b)

pub returns-clause-due : goal.returns-clause-due
returns-clause-due c =
    subst (λ ts. Has ts c.args.pid.0 c.index.result.now) (ap (λ (v : View). v.set) c.self.view_is) (due_is c.self.inside.tick c.self.inside.dues.items c.self.inside.lists c.self.invariant.wheel c.in_ok-list_of.field-0 c.args.pid.0 c.index.result.now c.in_ok-list_of.ensures.list c.index.ensures)

pub returns-clause-one : goal.returns-clause-one
returns-clause-one c = λ p d e a b. one_due c.self.inside.tick c.self.inside.dues.items c.self.inside.lists c.self.invariant.wheel p d e (subst (λ ts. Has ts p d) (sym (ap (λ (v : View). v.set) c.self.view_is)) a) (subst (λ ts. Has ts p e) (sym (ap (λ (v : View). v.set) c.self.view_is)) b)

pub returns-then-pid-len-clause-known : goal.returns-then-pid-len-clause-known
returns-then-pid-len-clause-known c = place_known _ _ _ _ _ c.self.view_is c.self.invariant.wheel

pub returns-in_err-list_of-clause-known : goal.returns-in_err-list_of-clause-known
returns-in_err-list_of-clause-known c = place_known _ _ _ _ _ c.self.view_is c.self.invariant.wheel

pub returns-clause-known : goal.returns-clause-known
returns-clause-known c = place_known _ _ _ _ _ c.self.view_is c.self.invariant.wheel
