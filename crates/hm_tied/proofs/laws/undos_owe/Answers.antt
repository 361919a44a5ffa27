use Rattle.hm_tied.proofs.Undoing.{undo_owes}
use Rattle.hm_tied.proofs.laws.undos_owe.Goals as goal

pub returns : goal.returns
returns c = undo_owes
