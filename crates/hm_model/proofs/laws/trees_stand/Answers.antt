use Rattle.hm_model.proofs.Forest.{forest_all, rooted_all, roots_wait}
use Rattle.hm_model.proofs.Grown.{nodes_stay}
use Rattle.hm_model.proofs.laws.trees_stand.Goals as goal

pub returns-clause-stay : goal.returns-clause-stay
returns-clause-stay c = nodes_stay

pub returns-clause-forest : goal.returns-clause-forest
returns-clause-forest c = forest_all

pub returns-clause-rooted : goal.returns-clause-rooted
returns-clause-rooted c = rooted_all

pub returns-clause-wait : goal.returns-clause-wait
returns-clause-wait c = roots_wait
