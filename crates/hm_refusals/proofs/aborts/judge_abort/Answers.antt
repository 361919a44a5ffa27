use Rattle.std.proofs.Common.{ap, sym, ◌∙◌}
use Rattle.std.proofs.lemmas.Bool.{true≢false}
use Rattle.std.specs.Option.{option_copied}
use Rattle.hm_refusals.proofs.Aborting.{has_finished, in_time, is_below, is_late, may_abort}
use Rattle.hm_refusals.proofs.aborts.judge_abort.Goals as goal

pub returns-then-is_some-clause-refused : goal.returns-then-is_some-clause-refused
returns-then-is_some-clause-refused c =
    is_below c.args.records.now.past c.args.pid.0 c.in-Some.found.now (sym (ap option_copied c.in-Some.is) ∙ c.shown.ensures) (sym c.is_some.ensures ∙ c.if-is_some.true)

pub returns-then-has_finished-clause-refused : goal.returns-then-has_finished-clause-refused
returns-then-has_finished-clause-refused c =
    has_finished c.args.records.now.past c.args.pid.0 c.in-Some.found.now (sym (ap option_copied c.in-Some.is) ∙ c.shown.ensures) (sym c.is_some.ensures ∙ c.if-is_some.false)
    (sym c.has_finished.ensures ∙ c.if-has_finished.true)

pub returns-then-not-is_before_point-clause-refused : goal.returns-then-not-is_before_point-clause-refused
returns-then-not-is_before_point-clause-refused c =
    is_late c.args.records.now.past c.args.pid.0 c.in-Some.found.now (sym (ap option_copied c.in-Some.is) ∙ c.shown.ensures) (sym c.is_some.ensures ∙ c.if-is_some.false)
    (sym c.has_finished.ensures ∙ c.if-has_finished.false)
    (λ point. true≢false (sym (c.is_before_point.ensures.1 point) ∙ c.if-not-is_before_point.true))

pub returns-clause-may : goal.returns-clause-may
returns-clause-may c =
    in_time c.args.records.now.past c.args.pid.0 c.in-Some.found.now (sym (ap option_copied c.in-Some.is) ∙ c.shown.ensures) (sym c.is_some.ensures ∙ c.if-is_some.false)
    (sym c.has_finished.ensures ∙ c.if-has_finished.false)
    (c.is_before_point.ensures.0 c.if-not-is_before_point.false)

pub returns-clause-allowed : goal.returns-clause-allowed
returns-clause-allowed c = λ unaborted.
    may_abort c.args.records.now.past c.args.pid c.requires.begun c.procedures-legal.ensures.legal c.in-Some.found.now.aborted
    (in_time c.args.records.now.past c.args.pid.0 c.in-Some.found.now (sym (ap option_copied c.in-Some.is) ∙ c.shown.ensures) (sym c.is_some.ensures ∙ c.if-is_some.false)
    (sym c.has_finished.ensures ∙ c.if-has_finished.false)
    (c.is_before_point.ensures.0 c.if-not-is_before_point.false)) unaborted
