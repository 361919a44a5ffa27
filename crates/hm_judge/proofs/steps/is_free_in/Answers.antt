use Rattle.hm_judge.proofs.Stepping.{free_iff}
use Rattle.hm_judge.proofs.steps.is_free_in.Goals as goal

pub returns : goal.returns
returns g c = free_iff c.args.book.now.rows c.args.pid.0 c.first_conflict.result c.is_none.result c.is_none.ensures c.first_conflict.ensures.first
