use Rattle.std.proofs.lemmas.Result.{on_ok_weaker}
use Rattle.hm_judge.proofs.Rules.{unrefused}
use Rattle.hm_judge.proofs.judge.unrefused.Goals as goal

pub returns-clause-ok : goal.returns-clause-ok
returns-clause-ok c = on_ok_weaker c.judged.result (unrefused c.args.records.now.past c.args.entry.now) c.judged.ensures.ok
