use Rattle.std.proofs.lemmas.Result.{err_from_is_err_and}
use Rattle.hm_journal.proofs.reading.read_journal.Goals as goal

pub returns-in_err-read_others-clause-why : goal.returns-in_err-read_others-clause-why
returns-in_err-read_others-clause-why c entries spells =
    let p = err_from_is_err_and c.from_residual-in_err-read_others.result c.from_residual-in_err-read_others.ensures.1 in
    rw (p.1, p.2) (c.in_err-read_others.ensures.why entries spells)

pub returns-clause-origin : goal.returns-clause-origin
returns-clause-origin c =
    let origin = c.in_ok-state.origin in
    c.in_ok-read_others.ensures.origin origin.parts origin.based c.in_ok-state.ensures.begins.origin
