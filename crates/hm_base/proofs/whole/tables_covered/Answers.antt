use Rattle.hm_base.proofs.Covered.{holes_tell, told_by}
use Rattle.hm_base.proofs.whole.tables_covered.Goals as goal

pub returns : goal.returns
returns c = told_by c.have_no_holes.result (rw c.catalog.ensures at c.have_no_holes.ensures) (holes_tell c.ranges_tell.ensures.cover c.args.records.now.past)
