use Rattle.hm_tied.proofs.OthersIn.{down_owes, submit_owes}
use Rattle.hm_tied.proofs.bounds.roots_owe.Goals as goal

pub returns-clause-submit : goal.returns-clause-submit
returns-clause-submit c = submit_owes

pub returns-clause-down : goal.returns-clause-down
returns-clause-down c = down_owes
