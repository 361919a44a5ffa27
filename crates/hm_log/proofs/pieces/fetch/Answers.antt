use Rattle.std.proofs.Common.{List, ℕ, sym, subst}
use Rattle.hm_log.specs.Format.{IsNotALog}
use Rattle.hm_log.proofs.pieces.fetch.Goals as goal

pub returns-clause-memory : goal.returns-clause-memory
returns-clause-memory g c tells place err foreign =
    c.find.ensures.memory tells place err (subst (λ (l : List ℕ). IsNotALog l place) (sym c.measure.ensures.only_reads.untouched.reads) foreign)
