use Rattle.std.proofs.Common.{◌<◌, length, ap, sym, subst}
use Rattle.hm_sched.specs.Queues.{Stations, StandsNowhere}
use Rattle.hm_sched.proofs.Keeping.{kept_push, there}
use Rattle.hm_sched.proofs.Numbers.{nowhere_out}
use Rattle.hm_sched.proofs.sched.Sched.push.Goals as goal

pub push_back-requires-clause-out : goal.push_back-requires-clause-out
push_back-requires-clause-out g c =
    nowhere_out c.self.inside.lists.lists c.args.pid (subst (λ ls. StandsNowhere ls c.args.pid) (sym (ap (λ (s : Stations). s.lists) c.self.view_is)) c.requires.nowhere)

pub invariant_of-self : goal.invariant_of-self
invariant_of-self g c =
    let within = there c.args.self.now c.self.inside.lists (length c.self.inside.said.items) c.self.inside.servers c.args.queue c.self.invariant
    (sym (ap (λ (s : Stations). s.pids) c.self.view_is)) (sym (ap (λ (s : Stations). s.servers) c.self.view_is)) c.requires.room in
    kept_push c.self.inside.lists c.push_back.new.self (length c.self.inside.said.items) c.self.inside.servers c.number.result c.args.pid c.self.invariant
    (subst (λ n. n < length c.self.inside.lists.lists) (sym c.number.ensures) within)
    (subst (λ n. c.args.pid < n) (sym (ap (λ (s : Stations). s.pids) c.self.view_is)) c.requires.known)
    (nowhere_out c.self.inside.lists.lists c.args.pid (subst (λ ls. StandsNowhere ls c.args.pid) (sym (ap (λ (s : Stations). s.lists) c.self.view_is)) c.requires.nowhere))
    c.push_back.ensures.lists c.push_back.ensures.spare
