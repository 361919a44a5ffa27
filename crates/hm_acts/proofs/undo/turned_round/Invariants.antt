use Rattle.std.proofs.Common.{◌≡◌, map, take}
use Rattle.hm_model.specs.Undoing.{turned}
use Rattle.hm_acts.proofs.undo.turned_round.Given as goal

abbrev pub invariant-loop-edit : goal.invariant-loop-edit
invariant-loop-edit l = l.turned_edits.items ≡ map turned (take l.edit-index l.edits)
