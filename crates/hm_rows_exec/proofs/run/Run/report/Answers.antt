use Rattle.hm_rows_exec.specs.Outs.{at_exec}
use Rattle.hm_rows_exec.proofs.Stays.{outs_stay, report_stays}
use Rattle.hm_rows_exec.proofs.run.Run.report.Goals as goal

pub invariant_of-self : goal.invariant_of-self
invariant_of-self c =
    let old = at_exec c.self.inside.exec in
    let new = at_exec c.report.new.self in
    outs_stay old new c.self.inside.outs.items (report_stays old new c.args.message c.report.result c.report.ensures.answers) c.self.invariant
