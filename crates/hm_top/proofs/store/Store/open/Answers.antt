use Rattle.std.proofs.Common.{List}
use Rattle.std.proofs.lemmas.Result.{err_from_is_err_and}
use Rattle.hm_data.specs.declared.entry.Entry.{Entry}
use Rattle.hm_journal.specs.Stored.{opened}
use Rattle.hm_top.proofs.Stores.{opened_editions, opened_kept, opened_sheets}
use Rattle.hm_top.proofs.store.Store.open.Goals as goal

pub returns-in_err-journal-clause-same : goal.returns-in_err-journal-clause-same
returns-in_err-journal-clause-same g c tells =
    let p = err_from_is_err_and c.from_residual.result c.from_residual.ensures.1 in rw (p.1, p.2) (c.in_err-journal.ensures.same tells)

pub returns-in_err-journal-clause-spared : goal.returns-in_err-journal-clause-spared
returns-in_err-journal-clause-spared g c tells =
    let p = err_from_is_err_and c.from_residual.result c.from_residual.ensures.1 in rw (p.1, p.2) (c.in_err-journal.ensures.spared tells)

pub returns-clause-journal : goal.returns-clause-journal
returns-clause-journal g c =
    let found = c.in_ok-journal.ensures.journal in
    let old : List Entry = found.0 in
    let kept = c.in_ok-journal.journal.kept in (
      old,
      found.1,
      opened_kept (opened c.args.sheets.now old) kept c.args.limits found.2 c.in_ok-journal.ensures.fresh.0 c.in_ok-journal.ensures.fresh.1 c.in_ok-journal.ensures.fresh.2 c.in_ok-journal.ensures.limits.0 c.in_ok-journal.ensures.limits.1,
      found.3,
      found.4,
    )

pub returns-clause-sheets : goal.returns-clause-sheets
returns-clause-sheets g c =
    let found = c.in_ok-journal.ensures.journal in
    opened_sheets c.args.sheets.now found.0 c.in_ok-journal.journal.kept.entries found.1 found.2

pub returns-clause-unadopted : goal.returns-clause-unadopted
returns-clause-unadopted g c =
    let found = c.in_ok-journal.ensures.journal in
    opened_editions c.args.sheets.now found.0 c.in_ok-journal.journal.kept.entries found.1 found.2

pub invariant_of-result : goal.invariant_of-result
invariant_of-result g c = record { same = c.in_ok-journal.ensures.state; going = c.in_ok-journal.ensures.fresh.2; tailless = c.in_ok-journal.ensures.fresh.1 }
