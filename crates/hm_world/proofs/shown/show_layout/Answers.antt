use Rattle.std.proofs.Common.{◌∙◌, Some, ap, sym}
use Rattle.hm_model.specs.Answers.{report_of}
use Rattle.hm_model.specs.Journal.{Past}
use Rattle.hm_model.specs.Layouts.{laid_by, laid_if, layout_called}
use Rattle.hm_model.specs.Records.{record_of}
use Rattle.hm_model.specs.Verbs.{verb_in}
use Rattle.hm_server.specs.Actors.{storage_of}
use Rattle.hm_world_model.proofs.Layouts.{none_if}
use Rattle.hm_world.proofs.Storages.{layout_kept, layout_shown, told_as, told_there, untold}
use Rattle.hm_world.proofs.shown.show_layout.Goals as goal

pub returns-in_default : goal.returns-in_default
returns-in_default c =
    let J = c.args.state.now.past in
    layout_kept J c.args.pid.0 (storage_of c.args.storage.now)
    (untold J c.args.pid.0 (sym (c.in_default.ensures ∙ ap (λ (K : Past). report_of K c.args.pid.0) c.procedures-procedures.ensures)))
    c.requires

pub unreachable-requires : goal.unreachable-requires
unreachable-requires c =
    told_there c.args.state.now.past c.journal.ensures.legal c.calls_are_own.ensures.own c.calls_are_own.ensures.fit c.args.pid.0 c.in-Some.told
    (c.in-Some.ensures ∙ ap (λ (K : Past). report_of K c.args.pid.0) c.procedures-procedures.ensures)
    (c.in_default-find.ensures ∙ ap (λ (K : Past). record_of K c.args.pid.0) c.procedures-procedures.ensures)

pub returns-in_default-layout_of : goal.returns-in_default-layout_of
returns-in_default-layout_of c =
    let J = c.args.state.now.past in
    layout_kept J c.args.pid.0 (storage_of c.args.storage.now)
    (λ root b. told_as J c.journal.ensures.legal c.args.pid.0 c.in-Some.told c.in-Some-find.record.now
    (c.in-Some.ensures ∙ ap (λ (K : Past). report_of K c.args.pid.0) c.procedures-procedures.ensures)
    (c.in-Some-find.ensures ∙ ap (λ (K : Past). record_of K c.args.pid.0) c.procedures-procedures.ensures) root b
    ∙ ap (λ o. laid_if o (laid_by c.in-Some.told) root b) (sym c.in_default-layout_of.ensures))
    c.requires

pub returns-in_default-leaves_layout : goal.returns-in_default-leaves_layout
returns-in_default-leaves_layout c =
    let J = c.args.state.now.past in
    layout_kept J c.args.pid.0 (storage_of c.args.storage.now)
    (λ root b. told_as J c.journal.ensures.legal c.args.pid.0 c.in-Some.told c.in-Some-find.record.now
    (c.in-Some.ensures ∙ ap (λ (K : Past). report_of K c.args.pid.0) c.procedures-procedures.ensures)
    (c.in-Some-find.ensures ∙ ap (λ (K : Past). record_of K c.args.pid.0) c.procedures-procedures.ensures) root b
    ∙ ap (λ o. laid_if (layout_called (verb_in c.in-Some-find.record.now.args)) o root b) (sym c.in_default-leaves_layout.ensures)
    ∙ none_if (layout_called (verb_in c.in-Some-find.record.now.args)) root b)
    c.requires

pub returns : goal.returns
returns c =
    let J = c.args.state.now.past in
    layout_shown J c.args.pid.0 (storage_of c.args.storage.now) (storage_of c.show_laid.new.self) c.in-Some-layout_of.root c.in-Some-leaves_layout.there
    (λ root b. told_as J c.journal.ensures.legal c.args.pid.0 c.in-Some.told c.in-Some-find.record.now
    (c.in-Some.ensures ∙ ap (λ (K : Past). report_of K c.args.pid.0) c.procedures-procedures.ensures)
    (c.in-Some-find.ensures ∙ ap (λ (K : Past). record_of K c.args.pid.0) c.procedures-procedures.ensures) root b
    ∙ ap (λ o. laid_if o (laid_by c.in-Some.told) root b) (sym c.in-Some-layout_of.ensures)
    ∙ ap (λ o. laid_if (Some c.in-Some-layout_of.root.0) o root b) (sym c.in-Some-leaves_layout.ensures))
    c.requires c.in_ok-show_laid.ensures.storage
