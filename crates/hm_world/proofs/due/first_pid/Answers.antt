use Rattle.std.proofs.Common.{arith}
use Rattle.hm_model.proofs.Grown.{grown_all}
use Rattle.hm_world.proofs.due.first_pid.Goals as goal

pub overflow_add-result : goal.overflow_add-result
overflow_add-result c = let few = (grown_all c.procedures-procedures.result.now.past c.last_pid-last.ensures.legal).low in omega (arith, few)
