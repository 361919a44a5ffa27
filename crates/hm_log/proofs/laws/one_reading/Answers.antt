use Rattle.hm_log.proofs.Listed.{one_list}
use Rattle.hm_log.proofs.laws.one_reading.Goals as goal

pub returns : goal.returns
returns c = one_list
