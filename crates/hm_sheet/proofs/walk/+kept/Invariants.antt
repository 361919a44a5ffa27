use Rattle.std.proofs.Common.{length}
use Rattle.hm_sheet.proofs.walk.+kept.Given as goal

abbrev pub decreases-kept : goal.decreases-kept
decreases-kept l = length l.lines.now
