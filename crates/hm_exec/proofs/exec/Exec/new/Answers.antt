use Rattle.std.proofs.Common.{ℕ, subst}
use Rattle.hm_model.specs.Journal.{Past}
use Rattle.hm_sched.specs.Queues.{IsReady}
use Rattle.hm_tied.specs.Tied.{IsOpen}
use Rattle.hm_exec.proofs.exec.Exec.new.Goals as goal

pub returns-in-Ok-clause-ready : goal.returns-in-Ok-clause-ready
returns-in-Ok-clause-ready g c = subst (λ (J : Past). (q : ℕ) → IsOpen J q → IsReady c.in-Ok.desk.sched.lists q) c.records.ensures c.in-Ok.ensures.ready
