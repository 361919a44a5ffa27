use Rattle.hm_tied.proofs.UsesIn.{debts_rise}
use Rattle.hm_tied.proofs.bounds.debts_rise.Goals as goal

pub returns : goal.returns
returns c = debts_rise
