use Rattle.hm_gate.proofs.Owed.{nothing-owed}
use Rattle.hm_gate.proofs.laws.owes_nothing.Goals as goal

pub returns : goal.returns
returns c = nothing-owed
