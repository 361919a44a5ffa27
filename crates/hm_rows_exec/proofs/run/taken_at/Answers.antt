use Rattle.hm_rows_exec.proofs.Stays.{taken_left}
use Rattle.hm_rows_exec.proofs.run.taken_at.Goals as goal

pub returns : goal.returns
returns c = taken_left c.args.outs.now.items c.remove.new.self.items c.args.place c.remove.result c.requires c.remove.ensures.items c.remove.ensures.value
