use Rattle.hm_model.proofs.Touched.{ends_by, let_go}
use Rattle.hm_model.proofs.laws.steps_touch_few.Goals as goal

pub returns-clause-go : goal.returns-clause-go
returns-clause-go c = let_go

pub returns-clause-end : goal.returns-clause-end
returns-clause-end c = ends_by
