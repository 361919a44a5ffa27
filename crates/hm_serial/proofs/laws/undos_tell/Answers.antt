use Rattle.hm_serial.proofs.Telling.{undos_tell}
use Rattle.hm_serial.proofs.laws.undos_tell.Goals as goal

pub returns : goal.returns
returns c = undos_tell
