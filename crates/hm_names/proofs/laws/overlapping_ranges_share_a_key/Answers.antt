use Rattle.hm_names.proofs.Ranges.{common_key}
use Rattle.hm_names.proofs.laws.overlapping_ranges_share_a_key.Goals as goal

pub returns : goal.returns
returns c = common_key
