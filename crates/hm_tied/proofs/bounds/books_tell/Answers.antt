use Rattle.hm_tied.proofs.UsesIn.{ancestors_told, free_ties, known_made, none_clash_ties, ready_enlisted}
use Rattle.hm_tied.proofs.bounds.books_tell.Goals as goal

pub returns-clause-none : goal.returns-clause-none
returns-clause-none c = none_clash_ties

pub returns-clause-free : goal.returns-clause-free
returns-clause-free c = free_ties

pub returns-clause-ready : goal.returns-clause-ready
returns-clause-ready c = ready_enlisted

pub returns-clause-made : goal.returns-clause-made
returns-clause-made c = known_made

pub returns-clause-above : goal.returns-clause-above
returns-clause-above c = ancestors_told
