use Rattle.std.proofs.Common.{take}
use Rattle.hm_rows_exec.specs.Outs.{AreOthers}
use Rattle.hm_rows_exec.proofs.run.are_others.Given as goal

abbrev pub invariant-loop-out : goal.invariant-loop-out
invariant-loop-out l = AreOthers l.pid (take l.out-index l.outs)
