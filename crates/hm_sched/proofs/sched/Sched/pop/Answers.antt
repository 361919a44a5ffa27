use Rattle.std.proofs.Common.{◌<◌, length, ap, sym, subst}
use Rattle.hm_sched.specs.Queues.{Stations, StandsNowhere}
use Rattle.hm_sched.proofs.Keeping.{kept_pop, popped, there}
use Rattle.hm_sched.proofs.sched.Sched.pop.Goals as goal

pub invariant_of-self : goal.invariant_of-self
invariant_of-self g c =
    let within = there c.args.self.now c.self.inside.lists (length c.self.inside.said.items) c.self.inside.servers c.args.queue c.self.invariant
    (sym (ap (λ (s : Stations). s.pids) c.self.view_is)) (sym (ap (λ (s : Stations). s.servers) c.self.view_is)) c.requires in
    kept_pop c.self.inside.lists c.pop_front.new.self (length c.self.inside.said.items) c.self.inside.servers c.number.result c.self.invariant
    (subst (λ n. n < length c.self.inside.lists.lists) (sym c.number.ensures) within) c.pop_front.ensures.lists c.pop_front.ensures.spare

pub invariant_of-self-2 : goal.invariant_of-self-2
invariant_of-self-2 g c =
    let within = there c.args.self.now c.self.inside.lists (length c.self.inside.said.items) c.self.inside.servers c.args.queue c.self.invariant
    (sym (ap (λ (s : Stations). s.pids) c.self.view_is)) (sym (ap (λ (s : Stations). s.servers) c.self.view_is)) c.requires in
    kept_pop c.self.inside.lists c.pop_front.new.self (length c.self.inside.said.items) c.self.inside.servers c.number.result c.self.invariant
    (subst (λ n. n < length c.self.inside.lists.lists) (sym c.number.ensures) within) c.pop_front.ensures.lists c.pop_front.ensures.spare

pub returns-clause-out : goal.returns-clause-out
returns-clause-out g c =
    let within = there c.args.self.now c.self.inside.lists (length c.self.inside.said.items) c.self.inside.servers c.args.queue c.self.invariant
    (sym (ap (λ (s : Stations). s.pids) c.self.view_is)) (sym (ap (λ (s : Stations). s.servers) c.self.view_is)) c.requires in
    let out = popped c.self.inside.lists c.pop_front.new.self (length c.self.inside.said.items) c.self.inside.servers c.number.result c.in_ok-node.node c.self.invariant
    (subst (λ n. n < length c.self.inside.lists.lists) (sym c.number.ensures) within) c.in_ok-node.ensures.first c.pop_front.ensures.lists in (
      subst (StandsNowhere c.pop_front.new.self.lists) (sym c.from.ensures) out.0,
      subst (λ p. p < c.args.self.now.pids) (sym c.from.ensures) (subst (λ n. c.in_ok-node.node < n) (ap (λ (s : Stations). s.pids) c.self.view_is) out.1),
    )
