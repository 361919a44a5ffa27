use Rattle.hm_lend.proofs.Lending.{comes_back}
use Rattle.hm_lend.proofs.laws.back_is_decided.Goals as goal

pub returns : goal.returns
returns g c = comes_back
