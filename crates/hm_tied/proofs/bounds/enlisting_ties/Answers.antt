use Rattle.hm_tied.proofs.Uses.{enlisting_ends, enlisting_goes_on}
use Rattle.hm_tied.proofs.UsesIn.{enlisting_begins}
use Rattle.hm_tied.proofs.bounds.enlisting_ties.Goals as goal

pub returns-clause-begins : goal.returns-clause-begins
returns-clause-begins c = enlisting_begins

pub returns-clause-goes_on : goal.returns-clause-goes_on
returns-clause-goes_on c = enlisting_goes_on

pub returns-clause-ends : goal.returns-clause-ends
returns-clause-ends c = enlisting_ends
