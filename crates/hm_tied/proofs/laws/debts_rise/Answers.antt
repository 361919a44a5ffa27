use Rattle.hm_tied.proofs.Uses.{debts_rise}
use Rattle.hm_tied.proofs.laws.debts_rise.Goals as goal

pub returns : goal.returns
returns c = debts_rise
