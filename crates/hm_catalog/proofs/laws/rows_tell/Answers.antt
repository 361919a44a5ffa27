use Rattle.hm_catalog.proofs.Follows.{deeds_tell, rows_are_asked, rows_tell}
use Rattle.hm_catalog.proofs.laws.rows_tell.Goals as goal

pub returns : goal.returns
returns c = record { rows = rows_tell; asked = rows_are_asked; deeds = deeds_tell }
