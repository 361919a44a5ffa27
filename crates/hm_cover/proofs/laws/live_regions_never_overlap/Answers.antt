use Rattle.hm_cover.proofs.Never.{never_overlap}
use Rattle.hm_cover.proofs.laws.live_regions_never_overlap.Goals as goal

pub returns : goal.returns
returns c = never_overlap
