use Rattle.hm_serial.proofs.Failing.{edits_covered}
use Rattle.hm_serial.proofs.laws.edits_are_covered.Goals as goal

pub returns : goal.returns
returns c = edits_covered
