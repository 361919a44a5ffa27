use Rattle.hm_log.proofs.Judging.{only, some}
use Rattle.hm_log.proofs.laws.one_verdict.Goals as goal

pub returns-clause-some : goal.returns-clause-some
returns-clause-some c = some

pub returns-clause-only : goal.returns-clause-only
returns-clause-only c = only
