use Rattle.std.proofs.Common.{sym}
use Rattle.hm_base.proofs.Judging.{read_one}
use Rattle.hm_base.proofs.base.read_first.Goals as goal

pub returns-in-Some-2-clause-read : goal.returns-in-Some-2-clause-read
returns-in-Some-2-clause-read c =
    read_one c.args.parts.now c.in-Some.first.now c.in-Some-2.reader (sym c.in-Some.ensures.value) (rw c.in-Some-2.is at c.in_ok-reader.ensures.past) (rw c.in-Some-2.is at c.in_ok-reader.ensures.read)
