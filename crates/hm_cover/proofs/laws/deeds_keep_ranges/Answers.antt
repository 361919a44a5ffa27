use Rattle.hm_cover.proofs.SerialWhole.{deeds_keep}
use Rattle.hm_cover.proofs.laws.deeds_keep_ranges.Goals as goal

pub returns : goal.returns
returns c = deeds_keep
