use Rattle.hm_tied.proofs.UndoingIn.{undo_owes}
use Rattle.hm_tied.proofs.bounds.undos_owe.Goals as goal

pub returns : goal.returns
returns c = undo_owes
