use Rattle.std.proofs.Common.{◌≡◌, true, ap, inl, inr, is_some, sym, ◌∙◌}
use Rattle.std.proofs.lemmas.Bool.{false≢true}
use Rattle.std.specs.Option.{option_copied}
use Rattle.hm_data.specs.declared.record.Record.{Record}
use Rattle.hm_model.specs.Answers.{report_of}
use Rattle.hm_model.specs.Journal.{Past}
use Rattle.hm_judge.proofs.Stepping.{IsReadyBy, may_iff}
use Rattle.hm_judge.proofs.steps.may_step.Goals as goal

pub returns-then-is_some : goal.returns-then-is_some
returns-then-is_some c =
    let J : Past = c.args.records.now.past in
    let its : Record = c.in-Some.found.now in
    let told : is_some (report_of J c.args.pid.0) ≡ true = ap (λ (l : Past). is_some (report_of l c.args.pid.0)) (sym c.procedures.ensures.past) ∙ ap is_some (sym c.report.ensures) ∙ sym c.is_some.ensures ∙ c.if-is_some.true in
    let ready : IsReadyBy J c.args.pid.0 its = inr (c.in-Awaiting.is, inl (λ none. false≢true (sym (ap is_some none) ∙ told))) in
    let iff = may_iff J c.args.pid.0 its (sym (ap option_copied c.in-Some.is) ∙ c.find.ensures.found) in
    (λ on. iff.1 ready, λ may. c.if-is_some.true)
