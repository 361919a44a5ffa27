use Rattle.hm_tied.proofs.UsesIn.{numbers_tie, room_ties}
use Rattle.hm_tied.proofs.bounds.room_ties.Goals as goal

pub returns-clause-lists : goal.returns-clause-lists
returns-clause-lists c = room_ties

pub returns-clause-numbers : goal.returns-clause-numbers
returns-clause-numbers c = numbers_tie
