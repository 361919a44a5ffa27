use Rattle.std.proofs.Common.{◌++◌, ◌∷◌, [], ◌∙◌, ap, subst}
use Rattle.hm_sched.specs.declared.queue.Queue.TheVariants.{Suspended}
use Rattle.hm_sched.specs.Queues.{IsWith, home, members}
use Rattle.hm_sched.proofs.Waking.{leaves, one_woken, wakes_one}
use Rattle.hm_sched.proofs.sched.Sched.wake.Goals as goal

pub take_out-requires : goal.take_out-requires
take_out-requires g c = let out = c.is_suspended.ensures.out.0 c.if-is_suspended.true in (Suspended out.0, out.1)

pub push-requires-clause-nowhere : goal.push-requires-clause-nowhere
push-requires-clause-nowhere g c = (leaves c.args.self.now.lists c.take_out.new.self.lists c.args.pid.0 c.take_out.ensures.lists).gone

pub returns-then-is_suspended-clause-wakes : goal.returns-then-is_suspended-clause-wakes
returns-then-is_suspended-clause-wakes g c =
    let out = c.is_suspended.ensures.out.0 c.if-is_suspended.true in
    wakes_one c.args.self.now.said c.args.self.now.lists c.take_out.new.self.lists c.push.new.self.lists c.args.pid.0 out.0 out.1 c.take_out.ensures.lists
    (subst (λ queue. IsWith c.take_out.new.self.lists queue (members c.take_out.new.self.lists queue ++ c.args.pid.0 ∷ []) c.push.new.self.lists)
    (c.home-home.ensures ∙ ap (λ said. home said c.args.pid.0) c.take_out.ensures.room.said) c.push.ensures.list)

pub returns-then-is_suspended-clause-order : goal.returns-then-is_suspended-clause-order
returns-then-is_suspended-clause-order g c =
    let out = c.is_suspended.ensures.out.0 c.if-is_suspended.true in
    one_woken c.args.self.now.said c.args.self.now.lists c.take_out.new.self.lists c.push.new.self.lists c.args.pid.0 out.0 out.1 c.is_suspended.ensures.one c.take_out.ensures.lists
    (subst (λ queue. IsWith c.take_out.new.self.lists queue (members c.take_out.new.self.lists queue ++ c.args.pid.0 ∷ []) c.push.new.self.lists)
    (c.home-home.ensures ∙ ap (λ said. home said c.args.pid.0) c.take_out.ensures.room.said) c.push.ensures.list)
