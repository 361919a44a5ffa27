use Rattle.std.proofs.Common.{map, ap, ◌∙◌}
use Rattle.hm_locks.specs.Book.{above_child}
use Rattle.hm_procedures.specs.Kept.{args_made}
use Rattle.hm_records.specs.Book.{above_made, asks_in, draft_of, enlisted}
use Rattle.hm_records.proofs.BookTold.{above_told}
use Rattle.hm_records.proofs.Drafts.{asks_same}
use Rattle.hm_records.proofs.book.drafts_of.Goals as goal

pub returns-clause-asks : goal.returns-clause-asks
returns-clause-asks c =
    let J = c.args.records.now.past in
    let entry = c.args.entry.now in
    c.in_ok-asks.ensures
    ∙ ap asks_in (c.deref.ensures.value ∙ c.in_ok-list.ensures
    ∙ ap (map (draft_of (above_child c.book.result.now.rows c.stepper_of.result))) (c.enlisted.ensures ∙ ap (enlisted entry) c.requires)
    ∙ ap (λ l. map (draft_of l) (enlisted entry (args_made J entry))) (above_told J c.book.result.now.rows c.book.ensures.rows c.stepper_of.result ∙ ap (above_made J) c.stepper_of.ensures))
    ∙ asks_same entry J c.procedures-legal.ensures.legal
