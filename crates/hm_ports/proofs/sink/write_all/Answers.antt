use Rattle.std.proofs.Common.{arith, append_assoc}
use Rattle.std.proofs.Math.Seq.{take-add}
use Rattle.std.proofs.lemmas.List.{take_rest}
use Rattle.std.proofs.lemmas.Grind.{common_steps}
use Rattle.hm_ports.proofs.sink.write_all.Goals as goal

pub loop-done-preserved : goal.loop-done-preserved
loop-done-preserved g c = record {
  in_range = grind (arith, common_steps);
  written = λ t. rw (c.in_ok-done.ensures.taken t, c.loop-done.invariant.written t, take-add) (simp (append_assoc, take_rest));
  later = grind (arith, common_steps);
}
