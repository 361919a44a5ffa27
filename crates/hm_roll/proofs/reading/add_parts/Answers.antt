use Rattle.std.proofs.lemmas.Result.{err_from_is_err_and}
use Rattle.hm_roll.proofs.Images.{first_wrong, spells_more}
use Rattle.hm_roll.proofs.reading.add_parts.Goals as goal

pub returns-in_err-add_part-clause-why : goal.returns-in_err-add_part-clause-why
returns-in_err-add_part-clause-why c =
    let p = err_from_is_err_and c.from_residual.result c.from_residual.ensures.1 in
    rw (p.1, p.2) (first_wrong c.args.frames.now c.loop-number.number c.loop-number.parts.items c.in_err-add_part.field-0.0 c.loop-number.invariant c.in_err-add_part.ensures.why)

pub loop-number-preserved : goal.loop-number-preserved
loop-number-preserved c =
    let added = c.in_ok-add_part.ensures.added in
    spells_more c.args.frames.now c.loop-number.number c.loop-number.parts.items c.add_part.new.parts.items added.0 c.loop-number.invariant added.1 added.2
