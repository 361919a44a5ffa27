use Rattle.std.proofs.Common.{◌≢◌, ◌↔◌, IsTrue, None, ap, subst, sym, ◌∙◌}
use Rattle.std.specs.Option.{option_copied}
use Rattle.hm_model.specs.Answers.{last_answer}
use Rattle.hm_model.specs.Phase.{ended}
use Rattle.hm_model.specs.Records.{record_of}
use Rattle.hm_roster.proofs.Giving.{has_answered, unanswered}
use Rattle.hm_roster.proofs.Opened.{found_first, found_free, found_held, found_idle, found_parent}
use Rattle.hm_roster.proofs.desk.Desk.open_row.Goals as goal

pub enlist_one-requires-clause-first : goal.enlist_one-requires-clause-first
enlist_one-requires-clause-first c =
    let J = c.args.records.now.past in
    found_first J c.args.self.now.book.rows c.args.pid.0 c.requires c.procedures-procedures.ensures.legal c.in-Some.found.now
    (sym (ap option_copied c.in-Some.is) ∙ c.find.ensures ∙ ap (λ J. record_of J c.args.pid.0) c.procedures-procedures.ensures.past)
    (ap (λ J. ended J c.args.pid.0) (sym c.procedures-procedures.ensures.past) ∙ sym c.has_ended.ensures ∙ c.if-has_ended.false)

pub enlist_one-requires-clause-parent : goal.enlist_one-requires-clause-parent
enlist_one-requires-clause-parent c =
    let J = c.args.records.now.past in
    found_parent J c.args.self.now.book.rows c.args.pid.0 c.requires c.procedures-procedures.ensures.legal c.in-Some.found.now
    (sym (ap option_copied c.in-Some.is) ∙ c.find.ensures ∙ ap (λ J. record_of J c.args.pid.0) c.procedures-procedures.ensures.past)
    (ap (λ J. ended J c.args.pid.0) (sym c.procedures-procedures.ensures.past) ∙ sym c.has_ended.ensures ∙ c.if-has_ended.false)

pub take-requires-clause-free : goal.take-requires-clause-free
take-requires-clause-free c =
    let J = c.args.records.now.past in
    let has = subst (λ K. IsTrue c.has_step.result ↔ (last_answer K c.args.pid.0 ≢ None)) c.procedures-procedures.ensures.past c.has_step.ensures in
    found_free J c.args.self.now.book.rows c.args.pid.0 c.requires c.procedures-procedures.ensures.legal c.in-Some.found.now
    (sym (ap option_copied c.in-Some.is) ∙ c.find.ensures ∙ ap (λ J. record_of J c.args.pid.0) c.procedures-procedures.ensures.past)
    (ap (λ J. ended J c.args.pid.0) (sym c.procedures-procedures.ensures.past) ∙ sym c.has_ended.ensures ∙ c.if-has_ended.false)
    c.enlist_one.new.self.book.rows c.in_ok-enlist_one.ensures.ok (has.0 c.if-has_step.true)

pub returns-then-has_step-clause-book : goal.returns-then-has_step-clause-book
returns-then-has_step-clause-book c =
    let J = c.args.records.now.past in
    let has = subst (λ K. IsTrue c.has_step.result ↔ (last_answer K c.args.pid.0 ≢ None)) c.procedures-procedures.ensures.past c.has_step.ensures in
    found_held J c.args.self.now.book.rows c.args.pid.0 c.requires c.procedures-procedures.ensures.legal c.in-Some.found.now
    (sym (ap option_copied c.in-Some.is) ∙ c.find.ensures ∙ ap (λ J. record_of J c.args.pid.0) c.procedures-procedures.ensures.past)
    (ap (λ J. ended J c.args.pid.0) (sym c.procedures-procedures.ensures.past) ∙ sym c.has_ended.ensures ∙ c.if-has_ended.false)
    c.enlist_one.new.self.book.rows c.take.new.self.rows c.in_ok-enlist_one.ensures.ok c.take.ensures.rows (has.0 c.if-has_step.true)

pub returns-else-has_step-clause-book : goal.returns-else-has_step-clause-book
returns-else-has_step-clause-book c =
    let J = c.args.records.now.past in
    let has = subst (λ K. IsTrue c.has_step.result ↔ (last_answer K c.args.pid.0 ≢ None)) c.procedures-procedures.ensures.past c.has_step.ensures in
    found_idle J c.args.self.now.book.rows c.args.pid.0 c.requires c.procedures-procedures.ensures.legal c.in-Some.found.now
    (sym (ap option_copied c.in-Some.is) ∙ c.find.ensures ∙ ap (λ J. record_of J c.args.pid.0) c.procedures-procedures.ensures.past)
    (ap (λ J. ended J c.args.pid.0) (sym c.procedures-procedures.ensures.past) ∙ sym c.has_ended.ensures ∙ c.if-has_ended.false)
    c.enlist_one.new.self.book.rows c.in_ok-enlist_one.ensures.ok (unanswered (last_answer J c.args.pid.0) (has_answered (last_answer J c.args.pid.0) c.has_step.result has ∙ c.if-has_step.false))
