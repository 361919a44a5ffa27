use Rattle.std.proofs.Common.{false, sym, ap, subst, ◌∙◌}
use Rattle.hm_model.specs.Journal.{Past}
use Rattle.hm_refusals.specs.Aborts.{IsAborted, IsAgainst}
use Rattle.hm_exec.specs.Moment.{IsGoing, past_of}
use Rattle.hm_exec.specs.View.{ExecView, moment_of}
use Rattle.hm_exec.proofs.Aborted.{abort_faults, abort_refused}
use Rattle.hm_exec.proofs.exec.Exec.abort.Goals as goal

pub returns-in-Err-clause-answers : goal.returns-in-Err-clause-answers
returns-in-Err-clause-answers g c =
    let here = c.records.ensures ∙ sym c.self.invariant.same ∙ ap (λ (e : ExecView _). past_of (moment_of g.R.Recorder.kept e)) c.self.view_is in
    abort_refused (moment_of g.R.Recorder.kept c.args.self.now) c.args.pid c.in-Err.why
    (subst (λ (e : ExecView _). IsGoing (moment_of g.R.Recorder.kept e)) c.self.view_is (sym c.in_default.ensures.halted))
    (subst (λ (J : Past). IsAgainst J c.args.pid.0 c.in-Err.why) here c.in-Err.ensures.refused)

pub returns-in-Err-record_abort-clause-answers : goal.returns-in-Err-record_abort-clause-answers
returns-in-Err-record_abort-clause-answers g c =
    let here = c.records.ensures ∙ sym c.self.invariant.same ∙ ap (λ (e : ExecView _). past_of (moment_of g.R.Recorder.kept e)) c.self.view_is in
    abort_faults (moment_of g.R.Recorder.kept c.args.self.now) (moment_of g.R.Recorder.kept c.record_abort.new.self) c.args.pid c.in-Err-record_abort.fault
    (subst (λ (J : Past). IsAborted J c.args.pid.0 false) here (subst (IsAborted c.records.result.now.past c.args.pid.0) c.in-Ok-false.field-0-test c.in-Ok-false.ensures.may))
    c.in-Err-record_abort.ensures.refused
