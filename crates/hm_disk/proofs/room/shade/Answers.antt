use Rattle.std.proofs.Common.{rules, ◌∙◌, arith}
use Rattle.hm_disk.proofs.Filled.{fill_next, unmarked}
use Rattle.hm_disk.proofs.room.shade.Goals.{then-marks-i-eq1, else-marks-i-eq1}
use Rattle.hm_disk.proofs.room.shade.Goals as goal

pub loop-i-preserved : goal.loop-i-preserved
loop-i-preserved c =
    let inv = c.loop-i.invariant in
    elim c.if-marks-i-eq1.branch [
      | then-marks-i-eq1 w ↦ record { so_far = fill_next _ c.loop-i.i _ _ _ _ (omega arith) (omega arith) (search rules) inv.so_far; size = search rules }
      | else-marks-i-eq1 w ↦ record { so_far = fill_next _ c.loop-i.i _ _ _ _ (omega arith) (omega arith) (w.bytes-is ∙ unmarked _ _ _ _ (omega arith) w.if-marks-i-eq1.false) inv.so_far; size = search rules }
    ]
