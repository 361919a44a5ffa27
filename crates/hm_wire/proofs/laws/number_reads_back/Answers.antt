use Rattle.hm_wire.specs.Laws.{number_again}
use Rattle.hm_wire.proofs.laws.number_reads_back.Goals as goal

pub returns : goal.returns
returns c = number_again
