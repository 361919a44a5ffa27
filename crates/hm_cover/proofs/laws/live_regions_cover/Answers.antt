use Rattle.hm_cover.proofs.Now.{live_cover}
use Rattle.hm_cover.proofs.laws.live_regions_cover.Goals as goal

pub returns : goal.returns
returns c = live_cover
