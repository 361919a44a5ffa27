use Rattle.hm_wire.specs.Laws.{same_bytes}
use Rattle.hm_wire.proofs.laws.one_spelling.Goals as goal

pub returns : goal.returns
returns c = λ xs ys fits_x fits_y len number. same_bytes xs ys len fits_x fits_y number
