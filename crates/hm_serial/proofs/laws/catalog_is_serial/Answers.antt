use Rattle.hm_serial.proofs.Serial.{catalog_is}
use Rattle.hm_serial.proofs.laws.catalog_is_serial.Goals as goal

pub returns : goal.returns
returns c = catalog_is
