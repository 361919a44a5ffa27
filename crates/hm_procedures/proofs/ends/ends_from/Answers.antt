use Rattle.std.proofs.Common.{◌≤◌, ◌+◌, ◌-◌, ◌<◌, arith, length, refl}
use Rattle.std.proofs.lemmas.Option.{slice_get_read}
use Rattle.hm_procedures.proofs.Readers.{ends_push}
use Rattle.hm_procedures.proofs.ends.ends_from.Goals as goal

pub loop-i-preserved : goal.loop-i-preserved
loop-i-preserved c =
    let lt = c.loop-i-test.true in
    let least : c.args.low ≤ c.args.from = c.requires.low (omega (arith, lt)) in
    let within : c.args.from + c.loop-i.i - c.args.low < length c.args.kept.now = omega (arith, lt, least, c.requires.high) in
    ends_push c.args.low c.args.kept.now c.args.from c.loop-i.i c.index-kept-place.result (slice_get_read c.args.kept.now (length c.args.kept.now) (c.args.from + c.loop-i.i - c.args.low) c.index-kept-place.result refl within c.index-kept-place.is) c.loop-i.ends.items c.push_end.new.ends.items c.loop-i.invariant c.in_ok-push_end.ensures
