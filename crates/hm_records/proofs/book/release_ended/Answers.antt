use Rattle.std.proofs.Common.{sym, ◌∙◌}
use Rattle.hm_records.proofs.BookBehind.{left_rows, left_rows_stepped}
use Rattle.hm_records.proofs.book.release_ended.Goals as goal

pub returns-in_default-clause-rows : goal.returns-in_default-clause-rows
returns-in_default-clause-rows c before past_is tree_is with_it =
    left_rows c.args.procedures.now.past before c.args.entry.now c.args.tree past_is tree_is c.last_pid-legal.ensures.legal c.args.book.now.rows c.release.new.book.rows with_it
    c.release.ensures.own c.release.ensures.others (sym c.stepper_of.ensures ∙ c.in_default.is)

pub returns-in-Some-clause-rows : goal.returns-in-Some-clause-rows
returns-in-Some-clause-rows c before past_is tree_is with_it =
    left_rows_stepped c.args.procedures.now.past before c.args.entry.now c.args.tree past_is tree_is c.last_pid-legal.ensures.legal c.args.book.now.rows c.release.new.book.rows with_it
    c.release.ensures.own c.release.ensures.others c.in-Some.pid (sym c.stepper_of.ensures ∙ c.in-Some.is) c.release-in-Some.new.book.rows c.release-in-Some.ensures.own c.release-in-Some.ensures.others
