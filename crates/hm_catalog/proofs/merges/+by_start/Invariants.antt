use Rattle.std.proofs.Common.{length}
use Rattle.hm_catalog.proofs.merges.+by_start.Given as goal

abbrev pub decreases-by_start : goal.decreases-by_start
decreases-by_start l = length l.regions.now
