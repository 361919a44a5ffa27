use Rattle.hm_rebase.proofs.Rebased.{down_is_fenced, open_is_served, parents_are_few, table_is_steady}
use Rattle.hm_rebase.proofs.laws.settled_stand.Goals as goal

pub returns-clause-fenced : goal.returns-clause-fenced
returns-clause-fenced c = down_is_fenced

pub returns-clause-served : goal.returns-clause-served
returns-clause-served c = open_is_served

pub returns-clause-steady : goal.returns-clause-steady
returns-clause-steady c = table_is_steady

pub returns-clause-few : goal.returns-clause-few
returns-clause-few c = parents_are_few
