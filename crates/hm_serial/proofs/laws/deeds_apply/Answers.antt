use Rattle.hm_serial.proofs.Serial.{deeds_apply_is}
use Rattle.hm_serial.proofs.laws.deeds_apply.Goals as goal

pub returns : goal.returns
returns c = deeds_apply_is
