use Rattle.hm_tied.proofs.Unbound.{available_less, free_available, picked_rest}
use Rattle.hm_tied.proofs.bounds.bounds_hold_back.Goals as goal

pub returns-clause-less : goal.returns-clause-less
returns-clause-less c = available_less

pub returns-clause-free : goal.returns-clause-free
returns-clause-free c = free_available

pub returns-clause-rest : goal.returns-clause-rest
returns-clause-rest c = picked_rest
