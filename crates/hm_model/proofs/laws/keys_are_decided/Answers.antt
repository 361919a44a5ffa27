use Rattle.hm_model.proofs.KeyTests.{same_table-Decides, same_region-Decides, same_key-Decides, key_cmp-is, key_cmp-same}
use Rattle.hm_model.proofs.laws.keys_are_decided.Goals as goal

pub returns-clause-tables : goal.returns-clause-tables
returns-clause-tables c = same_table-Decides

pub returns-clause-regions : goal.returns-clause-regions
returns-clause-regions c = same_region-Decides

pub returns-clause-keys : goal.returns-clause-keys
returns-clause-keys c = same_key-Decides

pub returns-clause-ties : goal.returns-clause-ties
returns-clause-ties c = λ a b. (key_cmp-is a b, key_cmp-same a b)
