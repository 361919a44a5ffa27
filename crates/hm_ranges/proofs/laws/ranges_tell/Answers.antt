use Rattle.hm_ranges.proofs.Told.{tells_cover, tells_fit}
use Rattle.hm_ranges.proofs.laws.ranges_tell.Goals as goal

pub returns-clause-cover : goal.returns-clause-cover
returns-clause-cover c = tells_cover

pub returns-clause-fit : goal.returns-clause-fit
returns-clause-fit c = tells_fit
