use Rattle.hm_model.proofs.Waiting.{children_change, children_tell, under_change, under_tells}
use Rattle.hm_model.proofs.laws.open_are_counted.Goals as goal

pub returns-clause-children : goal.returns-clause-children
returns-clause-children c = children_tell

pub returns-clause-children_change : goal.returns-clause-children_change
returns-clause-children_change c = children_change

pub returns-clause-under : goal.returns-clause-under
returns-clause-under c = under_tells

pub returns-clause-under_change : goal.returns-clause-under_change
returns-clause-under_change c = under_change
