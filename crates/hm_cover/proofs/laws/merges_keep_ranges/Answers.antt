use Rattle.hm_cover.proofs.Merges.{merges_keep}
use Rattle.hm_cover.proofs.laws.merges_keep_ranges.Goals as goal

pub returns : goal.returns
returns c = merges_keep
