use Rattle.std.proofs.Common.{◌∙◌, refl, sym, subst, ap}
use Rattle.hm_data.specs.declared.entry.Entry.TheVariants as entry_is
use Rattle.hm_model.specs.Journal.{Past}
use Rattle.hm_model.specs.Rules.{Allowed}
use Rattle.hm_refusals.specs.Reports.{IsHeard}
use Rattle.hm_roster.specs.Roster.{Follows, claims_on}
use Rattle.hm_exec.specs.Hearing.{AnswersReport}
use Rattle.hm_exec.specs.View.{ExecView, moment_of}
use Rattle.hm_exec.proofs.Aborted.{report_passed}
use Rattle.hm_exec.proofs.Entered.{faulted, moment}
use Rattle.hm_exec.proofs.Rooted.{goes_on, stays_so}
use Rattle.hm_exec.proofs.exec.Exec.hear.Goals as goal

pub invariant_of-self : goal.invariant_of-self
invariant_of-self g c = stays_so _ _ _ _ c.self.inside.desk c.self.invariant c.add.ensures.past (entry_is.Report c.args.message.now.call c.args.message.now.told) c.in_err-number.field-0.0 c.in_err-number.ensures.adds

pub invariant_of-self-2 : goal.invariant_of-self-2
invariant_of-self-2 g c =
    goes_on (g.R.Recorder.kept c.self.inside.recorder) (g.R.Recorder.kept c.add.new.recorder) c.self.inside.state.past c.add.new.state.past c.self.inside.desk c.behind_report.new.self c.self.invariant
    c.add.ensures.past (subst (λ (J : Past). Follows J c.behind_report.new.self) c.records-2.ensures c.behind_report.ensures.follows)
    (ap (λ v. v.items) c.behind_report.ensures.same.claimed) (entry_is.Report c.args.message.now.call c.args.message.now.told) c.in_ok-number.number c.journal-legal.ensures.legal
    (subst (λ (J : Past). Allowed J (entry_is.Report c.args.message.now.call c.args.message.now.told)) c.records.ensures c.in_default-judge_report.ensures.allowed) c.in_ok-number.ensures.adds (λ q mine. tt)

pub returns-in_err-number-clause-answers : goal.returns-in_err-number-clause-answers
returns-in_err-number-clause-answers g c =
    let kept = g.R.Recorder.kept in
    let message = c.args.message.now in
    let report = entry_is.Report message.call message.told in
    let claims = claims_on c.self.inside.desk in
    let fault = c.in_err-number.field-0.0 in
    let past = c.records.ensures ∙ sym c.self.invariant.same in
    let faults = faulted (kept c.self.inside.recorder) (kept c.add.new.recorder) claims claims report (sym c.in_default.ensures.halted)
    (subst (λ (J : Past). Allowed J report) past c.in_default-judge_report.ensures.allowed) refl fault c.in_err-number.ensures.adds in
    subst (λ (e : ExecView _). AnswersReport (moment_of kept e) message c.from_residual.result (moment (kept c.add.new.recorder) claims)) c.self.view_is
    (report_passed (moment (kept c.self.inside.recorder) claims) (moment (kept c.add.new.recorder) claims) message fault c.from_residual.result c.from_residual.ensures.1
    (subst (λ (J : Past). IsHeard J message) past c.in_default-judge_report.ensures.heard) faults)
