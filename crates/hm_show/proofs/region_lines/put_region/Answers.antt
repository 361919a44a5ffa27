use Rattle.std.proofs.Common.{refl}
use Rattle.hm_show.proofs.Joining.{line_of_six}
use Rattle.hm_show.proofs.region_lines.put_region.Goals as goal

pub returns : goal.returns
returns c = record { text = line_of_six _ _ _ _ _ _ _ _ _ c.in_ok-put_range.ensures c.in_ok-put_place.ensures; count = refl }
