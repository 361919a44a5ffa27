use Rattle.std.proofs.Common.{◌↔◌, IfOk, IsTrue, Option, refl, subst}
use Rattle.hm_names.specs.Server.{Server}
use Rattle.hm_data.specs.declared.entry.Entry.TheVariants as entry_is
use Rattle.hm_model.specs.Inputs.{IsEvaluated}
use Rattle.hm_model.specs.Journal.{Past}
use Rattle.hm_judge.specs.Judge.{HoldsBut}
use Rattle.hm_judge.proofs.Judging.{breaks_step, refused_by}
use Rattle.hm_judge.proofs.Rules.{unrefused}
use Rattle.hm_judge.proofs.evaluation.evaluated.Goals as goal

pub returns-in-Step-clause-why : goal.returns-in-Step-clause-why
returns-in-Step-clause-why c =
    let J : Past = c.args.records.now.past in
    let pid = c.in-Step.pid in
    let pick : Option Server = c.in-Step.pick in
    let out = c.in-Step.out in
    let holds : HoldsBut J (entry_is.Step pid pick out) = subst (HoldsBut J) c.in-Step.is c.requires in
    rw c.in-Step.is
    (refused_by J (entry_is.Step pid pick out) (IsEvaluated J c.in-Step.pid.0 pick out) 8 c.is_evaluated.result c.compared.result (breaks_step J pid pick out holds) refl (unrefused J (entry_is.Step pid pick out) holds)
    (subst (λ (p : Option Server). IfOk c.is_evaluated.result (λ same. IsTrue same ↔ IsEvaluated J c.in-Step.pid.0 p out)) c.as_ref.ensures.value c.is_evaluated.ensures)
    c.compared.ensures.why)
