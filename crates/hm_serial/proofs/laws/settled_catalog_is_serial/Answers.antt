use Rattle.hm_serial.proofs.Serial.{settled_is}
use Rattle.hm_serial.proofs.laws.settled_catalog_is_serial.Goals as goal

pub returns : goal.returns
returns c = settled_is
