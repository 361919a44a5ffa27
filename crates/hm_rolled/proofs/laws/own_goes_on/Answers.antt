use Rattle.hm_rolled.proofs.Recorded.{events_record, own_goes_on, rolls_own, rolls_to_image}
use Rattle.hm_rolled.proofs.laws.own_goes_on.Goals as goal

pub returns-clause-record : goal.returns-clause-record
returns-clause-record c = events_record

pub returns-clause-own : goal.returns-clause-own
returns-clause-own c = own_goes_on

pub returns-clause-rolls : goal.returns-clause-rolls
returns-clause-rolls c = rolls_to_image

pub returns-clause-image : goal.returns-clause-image
returns-clause-image c = rolls_own
