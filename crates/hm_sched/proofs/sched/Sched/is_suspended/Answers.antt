use Rattle.std.proofs.lemmas.Bool.{false≢true}
use Rattle.hm_sched.specs.declared.queue.Queue.TheVariants.{Suspended}
use Rattle.hm_sched.proofs.Waking.{call_is_out}
use Rattle.hm_sched.proofs.sched.Sched.is_suspended.Goals as goal

pub returns-in-Some-clause-out : goal.returns-in-Some-clause-out
returns-in-Some-clause-out c = call_is_out c.args.self.now.lists c.in-Some.queue c.args.pid c.is_suspended.result c.is_suspended.ensures c.in-Some.ensures.place c.in-Some.ensures.one

pub returns-in-None-clause-out : goal.returns-in-None-clause-out
returns-in-None-clause-out c = ((λ e. absurd (false≢true e)), (λ out. absurd (c.in-None.ensures.place (Suspended out.0) out.1)))
