use Rattle.std.proofs.Common.{refl}
use Rattle.hm_base.specs.declared.reader.Reader.{Reader}
use Rattle.hm_base.proofs.Judging.{head_read}
use Rattle.hm_base.proofs.reader.Reader.begin.Goals as goal

pub returns-in_ok-records-in-Some-clause-read : goal.returns-in_ok-records-in-Some-clause-read
returns-in_ok-records-in-Some-clause-read c =
    let reader : Reader = record { records = c.in_ok-records-in-Some.records; ranges = c.in_ok-ranges.ranges; follow = c.in-Head.parts } in
    head_read c.args.first.now reader c.in-Head.entries c.in-Head.last c.in-Head.parts c.in-Head.sheets c.in-Head.is c.in_ok-records-in-Some.ensures refl
