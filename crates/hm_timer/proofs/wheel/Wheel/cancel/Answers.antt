use Rattle.std.proofs.Common.{◌∙◌, sym, ap, subst, arith, length, not, ◌==◌}
use Rattle.std.specs.Prelude.{filter}
use Rattle.hm_timer.specs.Timers.{View, Has}
use Rattle.hm_timer.proofs.Counted.{cancelled}
use Rattle.hm_timer.proofs.Wheels.{held_of, with_cancel}
use Rattle.hm_timer.proofs.wheel.Wheel.cancel.Goals as goal

pub overflow_cast-pid : goal.overflow_cast-pid
overflow_cast-pid c = let held = held_of c.self.inside.tick c.self.inside.dues.items c.self.inside.lists c.self.invariant.wheel c.args.pid.0 (c.requires.0, subst (λ ts. Has ts c.args.pid.0 c.requires.0) (sym (ap (λ (v : View). v.set) c.self.view_is)) c.requires.1) in let low = held.2 in omega (arith, low)

pub unlink-requires-clause-held : goal.unlink-requires-clause-held
unlink-requires-clause-held c = let held = held_of c.self.inside.tick c.self.inside.dues.items c.self.inside.lists c.self.invariant.wheel c.args.pid.0 (c.requires.0, subst (λ ts. Has ts c.args.pid.0 c.requires.0) (sym (ap (λ (v : View). v.set) c.self.view_is)) c.requires.1) in held.0

pub overflow_sub-self : goal.overflow_sub-self
overflow_sub-self c =
    let held = subst (λ ts. Has ts c.args.pid.0 c.requires.0) (sym (ap (λ (v : View). v.set) c.self.view_is)) c.requires.1 in
    let fewer = cancelled c.self.inside.tick c.self.inside.lists.lists c.unlink.ensures.apart c.args.pid.0 c.requires.0 held in
    let was = c.self.invariant.all in omega (arith, fewer, was)

pub invariant_of-self : goal.invariant_of-self
invariant_of-self c =
    let done = with_cancel c.self.inside.tick c.args.pid.0 c.self.inside.dues.items c.self.inside.lists c.unlink.new.lists c.self.invariant.wheel c.unlink.ensures.lists c.unlink.ensures.spare in record {
      wheel = done.0;
      all = (
          let held = subst (λ ts. Has ts c.args.pid.0 c.requires.0) (sym (ap (λ (v : View). v.set) c.self.view_is)) c.requires.1 in
          let fewer = cancelled c.self.inside.tick c.self.inside.lists.lists c.unlink.ensures.apart c.args.pid.0 c.requires.0 held in
          let now = ap length done.1 in
          let was = c.self.invariant.all in
          omega (arith, fewer, now, was));
    }

pub returns-clause-set : goal.returns-clause-set
returns-clause-set c =
    (with_cancel c.self.inside.tick c.args.pid.0 c.self.inside.dues.items c.self.inside.lists c.unlink.new.lists c.self.invariant.wheel c.unlink.ensures.lists c.unlink.ensures.spare).1
    ∙ ap (filter (λ timer. not (timer.0 == c.args.pid.0))) (ap (λ (v : View). v.set) c.self.view_is)
