use Rattle.hm_ids.proofs.IdsAll.{ids_named, none_ask}
use Rattle.hm_ids.proofs.laws.ids_are_named.Goals as goal

pub returns-clause-procedures : goal.returns-clause-procedures
returns-clause-procedures c = ids_named

pub returns-clause-none : goal.returns-clause-none
returns-clause-none c = none_ask
