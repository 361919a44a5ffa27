use Rattle.hm_batch.proofs.Gathering.{in_order-pieces_of, each-pieces_of, within-pieces_of, full-pieces_of}
use Rattle.hm_batch.proofs.laws.pieces_are_full.Goals as goal

pub returns-clause-all : goal.returns-clause-all
returns-clause-all c = in_order-pieces_of

pub returns-clause-each : goal.returns-clause-each
returns-clause-each c = each-pieces_of

pub returns-clause-within : goal.returns-clause-within
returns-clause-within c = within-pieces_of

pub returns-clause-full : goal.returns-clause-full
returns-clause-full c = full-pieces_of
