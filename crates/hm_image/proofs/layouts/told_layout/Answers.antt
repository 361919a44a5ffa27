use Rattle.std.proofs.Common.{◌≡◌, ◌∙◌, None, Some, ap, rules, sym}
use Rattle.hm_model.specs.Answers.{report_of}
use Rattle.hm_model.specs.Layouts.{laid_by, laid_if}
use Rattle.hm_world_model.specs.Layouts.{laid_told}
use Rattle.hm_image.specs.Layouts.{noted}
use Rattle.hm_image.proofs.Laid.{told_as, unshown}
use Rattle.hm_image.proofs.layouts.told_layout.Goals as goal

pub returns-in_err-record : goal.returns-in_err-record
returns-in_err-record c root before =
    let J = c.args.procedures.now.past in
    let none : c.from_residual-in_err-record.result ≡ None = search rules in
    unshown J c.last_pid-legal.ensures.legal c.args.pid.0 c.in_err-record.ensures (laid_told (report_of J c.args.pid.0)) root before ∙ ap (λ o. noted o root before) (sym none)

pub returns-in_err-root : goal.returns-in_err-root
returns-in_err-root c root before =
    let none : c.from_residual-in_err-root.result ≡ None = search rules in
    told_as c.args.procedures.now.past c.last_pid-legal.ensures.legal c.args.pid.0 c.in_ok-told.told c.in_ok-record.record.now c.in_ok-told.ensures c.in_ok-record.ensures root before
    ∙ ap (λ o. laid_if o (laid_by c.in_ok-told.told) root before) (sym c.in_err-root.ensures)
    ∙ ap (λ o. noted o root before) (sym none)

pub returns : goal.returns
returns c root before =
    told_as c.args.procedures.now.past c.last_pid-legal.ensures.legal c.args.pid.0 c.in_ok-told.told c.in_ok-record.record.now c.in_ok-told.ensures c.in_ok-record.ensures root before
    ∙ ap (λ o. laid_if o (laid_by c.in_ok-told.told) root before) (sym c.in_ok-root.ensures)
    ∙ ap (λ o. laid_if (Some c.in_ok-root.root.0) o root before) (sym c.in_ok-there.ensures)
