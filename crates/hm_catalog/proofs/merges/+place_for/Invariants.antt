use Rattle.std.proofs.Common.{length}
use Rattle.hm_catalog.proofs.merges.+place_for.Given as goal

abbrev pub decreases-place_for : goal.decreases-place_for
decreases-place_for l = length l.pieces.now
