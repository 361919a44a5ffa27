use Rattle.std.proofs.Common.{arith}
use Rattle.hm_journal.proofs.Spelled.{none_of}
use Rattle.hm_journal.proofs.opening.begin.Goals as goal

pub returns-in-Err-clause-empty : goal.returns-in-Err-clause-empty
returns-in-Err-clause-empty g c = none_of c.args.journal.kept.entries c.count.result c.count.ensures (omega (arith, c.if-count-gt0.false))
