use Rattle.hm_wire.specs.Laws.{text_again}
use Rattle.hm_wire.proofs.laws.text_reads_back.Goals as goal

pub returns : goal.returns
returns c = text_again
