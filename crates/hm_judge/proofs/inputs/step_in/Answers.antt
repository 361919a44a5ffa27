use Rattle.std.proofs.Common.{◌↔◌, ◌≤◌, IfOk, IsTrue, ap, sym, subst, ◌∙◌}
use Rattle.std.specs.Option.{option_copied}
use Rattle.hm_data.specs.declared.step.StepIn.{StepIn}
use Rattle.hm_model.specs.Editions.{editions}
use Rattle.hm_model.specs.Journal.{Past}
use Rattle.hm_model.specs.Rest.{MayUndo}
use Rattle.hm_judge.specs.Turns.{IsLatestOf, turned_to}
use Rattle.hm_judge.proofs.Asking.{can_run}
use Rattle.hm_judge.proofs.Seeing.{sees_step, sees_undo}
use Rattle.hm_judge.proofs.inputs.step_in.Goals as goal

pub returns-then-not-undoes-clause-runs : goal.returns-then-not-undoes-clause-runs
returns-then-not-undoes-clause-runs c =
    let J : Past = c.args.records.now.past in
    let pick = option_copied c.args.pick in
    let tells = subst (λ (past : Past). IsTrue c.undoes.result ↔ MayUndo past c.args.pid.0) c.procedures.ensures.past c.undoes.ensures in
    can_run J c.find.ensures.legal c.procedures_name_regions.ensures c.args.pid.0 pick c.in_ok-at.at
    (sees_step J c.args.pid c.in-Some.found.now pick c.in_ok-at.at c.undoes.result (sym (ap option_copied c.in-Some.is) ∙ c.find.ensures.found) c.if-not-undoes.true tells c.in_ok-at.ensures)

pub returns-clause-runs : goal.returns-clause-runs
returns-clause-runs c =
    let J : Past = c.args.records.now.past in
    let pick = option_copied c.args.pick in
    let tells = subst (λ (past : Past). IsTrue c.undoes.result ↔ MayUndo past c.args.pid.0) c.procedures.ensures.past c.undoes.ensures in
    let latest = c.in_ok-latest.latest in
    can_run J c.find.ensures.legal c.procedures_name_regions.ensures c.args.pid.0 pick c.undoing.result
    (sees_undo J c.args.pid c.in-Some.found.now pick c.undoing.result latest (sym (ap option_copied c.in-Some.is) ∙ c.find.ensures.found) (tells.0 c.if-not-undoes.false)
    (subst (λ r. IfOk r (IsLatestOf J c.args.pid.0)) c.in_ok-latest.ensures.0 c.latest_of.ensures)
    (c.undoing.ensures ∙ ap (λ at. turned_to at latest) (c.in_ok-latest.ensures.1 ∙ c.in_ok-at.ensures)))

pub returns-then-not-undoes-clause-edition : goal.returns-then-not-undoes-clause-edition
returns-then-not-undoes-clause-edition c = subst (λ (at : StepIn). at.edition ≤ editions c.args.records.now.past) (sym c.in_ok-at.ensures) c.in-Some.ensures.edition

pub returns-clause-edition : goal.returns-clause-edition
returns-clause-edition c =
    subst (λ (at : StepIn). at.edition ≤ editions c.args.records.now.past)
    (sym (c.undoing.ensures ∙ ap (λ at. turned_to at c.in_ok-latest.latest) (c.in_ok-latest.ensures.1 ∙ c.in_ok-at.ensures)))
    c.in-Some.ensures.edition
