use Rattle.hm_undo.proofs.Tells.{forgotten_leave, others_leave, steps_leave, steps_push, undos_pop}
use Rattle.hm_undo.proofs.laws.stacks_tell.Goals as goal

pub returns : goal.returns
returns c = record { steps = steps_push; others = steps_leave; undos = undos_pop; entries = others_leave; forgotten = forgotten_leave }
