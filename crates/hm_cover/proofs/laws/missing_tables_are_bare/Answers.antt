use Rattle.hm_cover.proofs.Now.{missing_bare}
use Rattle.hm_cover.proofs.laws.missing_tables_are_bare.Goals as goal

pub returns : goal.returns
returns c = missing_bare
