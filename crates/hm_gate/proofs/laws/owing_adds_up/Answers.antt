use Rattle.hm_gate.proofs.Owed.{owes-after}
use Rattle.hm_gate.proofs.laws.owing_adds_up.Goals as goal

pub returns : goal.returns
returns c = owes-after
