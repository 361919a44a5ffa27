use Rattle.hm_rows_exec.specs.Outs.{at_exec}
use Rattle.hm_rows_exec.proofs.Stays.{outs_stay, down_stays}
use Rattle.hm_rows_exec.proofs.run.Run.down.Goals as goal

pub invariant_of-self : goal.invariant_of-self
invariant_of-self c =
    let old = at_exec c.self.inside.exec in
    let new = at_exec c.server_down.new.self in
    outs_stay old new c.self.inside.outs.items (down_stays old new c.args.server.now c.server_down.result c.server_down.ensures.answers) c.self.invariant
