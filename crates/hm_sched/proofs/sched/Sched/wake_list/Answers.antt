use Rattle.std.proofs.Common.{◌++◌, ◌∷◌, [], ◌∙◌, ap, subst, arith}
use Rattle.hm_sched.specs.Queues.{IsWith, home, members}
use Rattle.hm_sched.proofs.Keeping.{same_room}
use Rattle.hm_sched.proofs.Waking.{all_woken, wakes, waking_next}
use Rattle.hm_sched.proofs.sched.Sched.wake_list.Goals as goal

pub loop-pid-preserved : goal.loop-pid-preserved
loop-pid-preserved g c = record {
  waking = waking_next c.args.self.now.said c.args.self.now.lists c.loop-pid.self.lists c.pop.new.self.lists c.push.new.self.lists c.args.queue c.args.steps.now c.loop-pid.steps c.push.new.steps c.in-Some.pid c.requires.unready
      c.loop-pid.invariant.waking c.in-Some.ensures.pops
      (subst (λ queue. IsWith c.pop.new.self.lists queue (members c.pop.new.self.lists queue ++ c.in-Some.pid ∷ []) c.push.new.self.lists)
      (c.home-home.ensures ∙ ap (λ said. home said c.in-Some.pid) (c.pop.ensures.room.said ∙ c.loop-pid.invariant.room.said)) c.push.ensures.list)
      (let pop = c.pop.ensures.steps in let push = c.push.ensures.steps in omega (arith, pop, push));
  room = same_room _ _ _ (same_room _ _ _ c.loop-pid.invariant.room c.pop.ensures.room) c.push.ensures.room;
}

pub returns-clause-wakes : goal.returns-clause-wakes
returns-clause-wakes g c =
    wakes c.args.self.now.said c.args.self.now.lists c.pop.new.self.lists c.args.queue c.requires.unready
    (all_woken c.args.self.now.said c.args.self.now.lists c.loop-pid.self.lists c.pop.new.self.lists c.args.queue c.args.steps.now c.loop-pid.steps c.loop-pid.invariant.waking c.in_default.ensures.pops).0

pub returns-clause-order : goal.returns-clause-order
returns-clause-order g c =
    (all_woken c.args.self.now.said c.args.self.now.lists c.loop-pid.self.lists c.pop.new.self.lists c.args.queue c.args.steps.now c.loop-pid.steps c.loop-pid.invariant.waking c.in_default.ensures.pops).0

pub returns-clause-steps : goal.returns-clause-steps
returns-clause-steps g c =
    let all = (all_woken c.args.self.now.said c.args.self.now.lists c.loop-pid.self.lists c.pop.new.self.lists c.args.queue c.args.steps.now c.loop-pid.steps c.loop-pid.invariant.waking c.in_default.ensures.pops).1 in
    let pop = c.pop.ensures.steps in omega (arith, all, pop)
