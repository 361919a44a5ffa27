use Rattle.hm_lend.proofs.Lending.{lends_none, lends_some}
use Rattle.hm_lend.proofs.laws.lending_is_decided.Goals as goal

pub returns-clause-none : goal.returns-clause-none
returns-clause-none g c = lends_none

pub returns-clause-some : goal.returns-clause-some
returns-clause-some g c = lends_some
