use Rattle.hm_cover.proofs.Never.{have_keys}
use Rattle.hm_cover.proofs.laws.live_ranges_have_keys.Goals as goal

pub returns : goal.returns
returns c = have_keys
