use Rattle.std.proofs.Common.{Err, inr, refl}
use Rattle.hm_hall.specs.declared.fault.HallFault.TheVariants as fault_is
use Rattle.hm_exec.specs.declared.answers.UpWhy.TheVariants as up_why
use Rattle.hm_commands.proofs.cluster.Cluster.start_new.Goals as goal

pub returns-in-Err-clause-comes : goal.returns-in-Err-clause-comes
returns-in-Err-clause-comes g c = (Err (up_why.Fault fault_is.Memory), (inr (c.requires.going, c.requires.can, refl), refl), refl)
