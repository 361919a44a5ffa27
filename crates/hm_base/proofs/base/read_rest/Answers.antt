use Rattle.std.proofs.Common.{length, refl}
use Rattle.std.proofs.lemmas.Option.{slice_get_read}
use Rattle.hm_base.proofs.Judging.{read_more}
use Rattle.hm_base.proofs.base.read_rest.Goals as goal

pub loop-number-preserved : goal.loop-number-preserved
loop-number-preserved c =
    let parts = c.args.parts.now in
    let number = c.loop-number.number in
    let part = c.index-parts-number-in-loop-number.result in
    let here = slice_get_read parts (length parts) number part refl c.loop-number-test.true c.index-parts-number-in-loop-number.is in
    read_more parts number c.loop-number.reader c.loop-number.invariant part c.take.new.self here (rw c.if-not-taken.false at c.in_ok-taken.ensures.taken)
