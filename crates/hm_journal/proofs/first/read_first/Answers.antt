use Rattle.std.proofs.lemmas.Result.{IfErr-weaker, err_from_is_err_and}
use Rattle.hm_journal.proofs.Places.{first_refused, none_read}
use Rattle.hm_journal.proofs.first.read_first.Goals as goal

pub returns-in_err-first-clause-why : goal.returns-in_err-first-clause-why
returns-in_err-first-clause-why c entries spells =
    let p = err_from_is_err_and c.from_residual.result c.from_residual.ensures.1 in
    rw (p.1, p.2) (none_read c.args.sheets.now c.args.frames.now entries 0 c.in_err-first.field-0.0 spells c.in_err-first.ensures.why)

pub returns-clause-why : goal.returns-clause-why
returns-clause-why c entries spells =
    IfErr-weaker c.state_with-state.result _ _
    (λ why none. first_refused c.args.sheets.now c.args.frames.now c.in_ok-first.first why c.in_ok-first.ensures.entry none entries spells) c.state_with-state.ensures.why
