use Rattle.std.proofs.Common.{length}
use Rattle.hm_catalog.proofs.merges.+last_range.Given as goal

abbrev pub decreases-last_range : goal.decreases-last_range
decreases-last_range l = length l.pieces.now
