use Rattle.std.proofs.Common.{subst, sym}
use Rattle.std.proofs.lemmas.Result.{err_from_is_err_and}
use Rattle.hm_journal.specs.Judged.{IsBeginning}
use Rattle.hm_journal.specs.declared.origin.Origin.{Origin}
use Rattle.hm_journal.proofs.Places.{none_read}
use Rattle.hm_journal.proofs.Started.{begins_first}
use Rattle.hm_journal.proofs.reading.read_begin.Goals as goal

pub returns-in_err-parts-clause-why : goal.returns-in_err-parts-clause-why
returns-in_err-parts-clause-why c entries spells =
    let p = err_from_is_err_and c.from_residual.result c.from_residual.ensures.1 in
    let why = c.in_err-parts.ensures.why in
    rw (p.1, p.2) (none_read c.args.sheets.now c.args.frames.now entries why.0 c.in_err-parts.field-0.0 spells why.1)

pub returns-clause-begins : goal.returns-clause-begins
returns-clause-begins c =
    let sheets = c.args.sheets.now in
    let frames = c.args.frames.now in
    let past = c.in_ok-state.state.past in
    let first = c.in_ok-state.ensures.first in
    subst (λ (o : Origin). IsBeginning sheets frames past o.parts o.based) (sym c.none.ensures) (begins_first sheets frames past first.0 first.1 first.4 first.2 first.3)
