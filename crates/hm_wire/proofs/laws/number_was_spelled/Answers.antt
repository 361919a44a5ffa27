use Rattle.hm_wire.specs.Laws.{number_takes, number_fits}
use Rattle.hm_wire.proofs.laws.number_was_spelled.Goals as goal

pub returns : goal.returns
returns c = record { spelled = number_takes; fits = number_fits }
