use Rattle.hm_lend.proofs.Stopping.{carry_first, give_first, take_first}
use Rattle.hm_lend.proofs.laws.stops_are_answered_first.Goals as goal

pub returns-clause-take : goal.returns-clause-take
returns-clause-take g c terms old new why answer shut = take_first old new why shut (g.H.Hall.can_go terms) answer

pub returns-clause-give : goal.returns-clause-give
returns-clause-give g c old new why taken out answer shut = give_first old new why shut taken out answer

pub returns-clause-carry : goal.returns-clause-carry
returns-clause-carry g c old new why answer shut = carry_first old new why shut answer
