use Rattle.hm_rows_exec.specs.Outs.{at_exec}
use Rattle.hm_rows_exec.proofs.Stays.{outs_stay, submit_stays}
use Rattle.hm_rows_exec.proofs.run.Run.submit.Goals as goal

pub invariant_of-self : goal.invariant_of-self
invariant_of-self c =
    let old = at_exec c.self.inside.exec in
    let new = at_exec c.submit.new.self in
    outs_stay old new c.self.inside.outs.items (submit_stays old new c.args.nonce c.args.request c.submit.result c.submit.ensures.answers) c.self.invariant
