use Rattle.std.proofs.Common.{ap, subst, arith, length, ◌∙◌}
use Rattle.hm_timer.specs.Timers.{View, Has}
use Rattle.hm_timer.proofs.Counted.{few_set, length_put_in}
use Rattle.hm_timer.proofs.Wheels.{out_of, sets}
use Rattle.hm_timer.proofs.wheel.Wheel.set.Goals as goal

pub link-requires-clause-out : goal.link-requires-clause-out
link-requires-clause-out c =
    out_of c.self.inside.tick c.self.inside.dues.items c.self.inside.lists c.self.invariant.wheel c.args.pid.0 (λ d h. c.requires.out d (subst (λ ts. Has ts c.args.pid.0 d) (ap (λ (v : View). v.set) c.self.view_is) h))

pub overflow_add-self : goal.overflow_add-self
overflow_add-self c =
    let few = few_set c.self.inside.tick c.self.inside.dues.items c.self.inside.lists c.self.invariant.wheel c.link.ensures.apart in
    let all = c.self.invariant.all in omega (arith, few, all)

pub invariant_of-self : goal.invariant_of-self
invariant_of-self c =
    let done = sets _ _ c.args.pid.0 c.args.due _ _ _ c.link.new.lists c.self.view_is c.self.invariant.wheel c.requires.room c.requires.out c.requires.later c.requires.near c.link.ensures.lists c.link.ensures.spare in record {
      wheel = done.0;
      all = (
          let was = c.self.invariant.all in
          let seen = ap (λ (v : View). length v.set) c.self.view_is in
          let put = ap length done.1 ∙ length_put_in c.args.pid.0 c.args.due _ in
          omega (arith, was, seen, put));
    }

pub returns-clause-set : goal.returns-clause-set
returns-clause-set c =
    (sets _ _ c.args.pid.0 c.args.due _ _ _ c.link.new.lists c.self.view_is c.self.invariant.wheel c.requires.room c.requires.out c.requires.later c.requires.near c.link.ensures.lists c.link.ensures.spare).1
