use Rattle.hm_rows_exec.specs.Outs.{at_exec}
use Rattle.hm_rows_exec.proofs.Stays.{outs_stay, up_stays}
use Rattle.hm_rows_exec.proofs.run.Run.up.Goals as goal

pub invariant_of-self : goal.invariant_of-self
invariant_of-self c =
    let old = at_exec c.self.inside.exec in
    let new = at_exec c.server_up.new.self in
    outs_stay old new c.self.inside.outs.items (up_stays old new c.args.server c.server_up.result c.server_up.ensures.answers) c.self.invariant
