use Rattle.std.proofs.Common.{length}
use Rattle.hm_sheet.proofs.walk.+astray.Given as goal

abbrev pub decreases-astray : goal.decreases-astray
decreases-astray l = length l.following.now
