use Rattle.std.proofs.Common.{◌<◌, length, ap, sym, subst, arith}
use Rattle.hm_sched.specs.Queues.{Stations, StandsIn, number}
use Rattle.hm_sched.proofs.Keeping.{kept_without}
use Rattle.hm_sched.proofs.sched.Sched.take_out.Goals as goal

pub overflow_cast-pid : goal.overflow_cast-pid
overflow_cast-pid g c =
    let low = c.self.invariant.known (number c.requires.0) c.args.pid (subst (λ ls. StandsIn ls c.requires.0 c.args.pid) (sym (ap (λ (s : Stations). s.lists) c.self.view_is)) c.requires.1) in
    let waits = c.self.invariant.waits in
    let small = c.self.invariant.small in
    omega (arith, low, waits, small)

pub invariant_of-self : goal.invariant_of-self
invariant_of-self g c =
    kept_without c.self.inside.lists c.unlink.new.self (length c.self.inside.said.items) c.self.inside.servers c.args.pid c.self.invariant c.unlink.ensures.lists c.unlink.ensures.spare

pub returns-clause-known : goal.returns-clause-known
returns-clause-known g c =
    subst (λ n. c.args.pid < n) (ap (λ (s : Stations). s.pids) c.self.view_is)
    (c.self.invariant.known (number c.requires.0) c.args.pid (subst (λ ls. StandsIn ls c.requires.0 c.args.pid) (sym (ap (λ (s : Stations). s.lists) c.self.view_is)) c.requires.1))
