use Rattle.hm_wire.specs.Laws.{text_takes, text_fits}
use Rattle.hm_wire.proofs.laws.text_was_spelled.Goals as goal

pub returns : goal.returns
returns c = record { spelled = text_takes; short = text_fits }
