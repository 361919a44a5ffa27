use Rattle.hm_hall.proofs.Stopping.{carry_first, give_first, take_first}
use Rattle.hm_hall.proofs.laws.stops_are_answered_first.Goals as goal

pub returns-clause-take : goal.returns-clause-take
returns-clause-take c old new why answer shut = take_first old new why shut answer

pub returns-clause-give : goal.returns-clause-give
returns-clause-give c old new why taken out answer shut = give_first old new why shut taken out answer

pub returns-clause-carry : goal.returns-clause-carry
returns-clause-carry c old new why answer shut = carry_first old new why shut answer
