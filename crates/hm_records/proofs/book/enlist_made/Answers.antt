use Rattle.std.proofs.Common.{ap, ◌∙◌, arith}
use Rattle.hm_model.specs.Tree.{made}
use Rattle.hm_records.specs.Book.{or_drafted, or_taken, row_at, stepper_of}
use Rattle.hm_records.proofs.Enlisted.{none_behind}
use Rattle.hm_records.proofs.book.enlist_made.Goals as goal

pub enlist-requires-clause-new : goal.enlist-requires-clause-new
enlist-requires-clause-new c p lt =
    let J = c.args.past.now.past in
    let last = c.last_pid.ensures.last in
    c.take.ensures.rows p ∙ ap (or_taken (stepper_of c.args.entry.now) p) (c.requires.rows p) ∙ none_behind J c.last_pid.ensures.legal (stepper_of c.args.entry.now) p (omega (arith, lt, last))

pub returns-clause-rows : goal.returns-clause-rows
returns-clause-rows c p =
    let J = c.args.past.now.past in
    let entry = c.args.entry.now in
    c.enlist.ensures.rows p
    ∙ ap (or_drafted c.last_pid.result c.args.drafts.items p) (c.take.ensures.rows p ∙ ap (or_taken (stepper_of entry) p) (c.requires.rows p))
    ∙ ap (λ n. or_drafted n c.args.drafts.items p (or_taken (stepper_of entry) p (row_at J p))) c.last_pid.ensures.last
    ∙ ap (λ l. or_drafted (made J) l p (or_taken (stepper_of entry) p (row_at J p))) c.requires.drafts
