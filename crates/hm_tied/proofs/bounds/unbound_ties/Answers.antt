use Rattle.hm_tied.proofs.Unbound.{free_ready, tied_bound}
use Rattle.hm_tied.proofs.bounds.unbound_ties.Goals as goal

pub returns-clause-tied : goal.returns-clause-tied
returns-clause-tied c = tied_bound

pub returns-clause-ready : goal.returns-clause-ready
returns-clause-ready c = free_ready
