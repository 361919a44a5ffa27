use Rattle.std.proofs.lemmas.Result.{err_from_is_err_and}
use Rattle.hm_journal.proofs.reading.may_follow.Goals as goal

pub returns-in_err-may_stand-clause-why : goal.returns-in_err-may_stand-clause-why
returns-in_err-may_stand-clause-why c =
    let p = err_from_is_err_and c.from_residual.result c.from_residual.ensures.1 in
    rw (p.1, p.2) (c.in_err-may_stand.ensures.why c.args.sheets.now)
