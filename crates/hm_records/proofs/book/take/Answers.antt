use Rattle.std.proofs.Common.{sym, ◌∙◌, ap}
use Rattle.hm_locks.specs.Book.{row_of}
use Rattle.hm_records.specs.Book.{or_taken}
use Rattle.hm_records.proofs.BookTold.{stepper_can, taken_rows}
use Rattle.hm_records.proofs.book.take.Goals as goal

pub take-requires-clause-enlisted : goal.take-requires-clause-enlisted
take-requires-clause-enlisted c =
    (stepper_can c.args.past.now.past c.args.book.now.rows c.requires.rows c.free_in_book_is_free.ensures c.args.entry.now c.requires.legal c.in-Some.pid (sym c.stepper_of.ensures ∙ c.in-Some.is)).0

pub take-requires-clause-free : goal.take-requires-clause-free
take-requires-clause-free c =
    (stepper_can c.args.past.now.past c.args.book.now.rows c.requires.rows c.free_in_book_is_free.ensures c.args.entry.now c.requires.legal c.in-Some.pid (sym c.stepper_of.ensures ∙ c.in-Some.is)).1

pub returns-in-Some-clause-rows : goal.returns-in-Some-clause-rows
returns-in-Some-clause-rows c p =
    taken_rows c.args.book.now.rows c.take.new.self.rows c.in-Some.pid c.take.ensures.rows p
    ∙ ap (λ s. or_taken s p (row_of c.args.book.now.rows p)) (sym c.in-Some.is ∙ c.stepper_of.ensures)

pub returns-in_default-clause-rows : goal.returns-in_default-clause-rows
returns-in_default-clause-rows c p = ap (λ s. or_taken s p (row_of c.args.book.now.rows p)) (sym c.in_default.is ∙ c.stepper_of.ensures)
