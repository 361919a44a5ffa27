use Rattle.std.proofs.Common.{◌++◌, ◌∷◌, [], ap, subst}
use Rattle.hm_sched.specs.Queues.{IsWith, Stations, members, ready_list}
use Rattle.hm_sched.proofs.Waking.{joins}
use Rattle.hm_sched.proofs.sched.Sched.ready.Goals as goal

pub returns-clause-joins : goal.returns-clause-joins
returns-clause-joins c =
    joins c.args.self.now.lists c.push_uncounted.new.self.lists (ready_list c.args.servers) c.args.pid.0
    (subst (λ queue. IsWith c.args.self.now.lists queue (members c.args.self.now.lists queue ++ c.args.pid.0 ∷ []) c.push_uncounted.new.self.lists) c.ready_list.ensures
    (subst (λ ls. IsWith ls c.ready_list.result (members ls c.ready_list.result ++ c.args.pid.0 ∷ []) c.push_uncounted.new.self.lists) (ap (λ (s : Stations). s.lists) c.say.ensures.said) c.push_uncounted.ensures.list))
