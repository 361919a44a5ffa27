use Rattle.std.proofs.Common.{Ok, refl, sym, ap, ◌∙◌, subst}
use Rattle.hm_hall.specs.Recording.{Recording}
use Rattle.hm_journal.specs.Opened.{Opened as OpenedAt}
use Rattle.hm_commands.specs.View.{IsLeftBy, scene_in}
use Rattle.hm_commands.proofs.Ran.{run_less, run_none}
use Rattle.hm_top.specs.Ending.{halted_status}
use Rattle.hm_top.specs.Ports.{sink_use}
use Rattle.hm_top.proofs.Refusals.{halt_tells, stop_tells, unjudged_tells}
use Rattle.hm_top.proofs.Runs.{talked_on, talked_stopped, talked_unopened}
use Rattle.hm_top.proofs.ending.converse.Goals as goal

pub answer_over-requires-clause-going : goal.answer_over-requires-clause-going
answer_over-requires-clause-going g c = ap (λ (k : Recording). k.halted) c.in-Ok.ensures.opened.2

pub returns-in-Ok-answer_over-clause-outcome : goal.returns-in-Ok-answer_over-clause-outcome
returns-in-Ok-answer_over-clause-outcome g c =
    let store = c.in-Ok.store in
    let at = scene_in c.in-Ok-answer_over.cluster in
    let talked = c.in-Ok-answer_over.ensures in
    let out = sink_use g.K.Sink c.args.out.now c.answer_over.new.out in
    let new = c.into_disk.result in
    let marks = c.answer_over.new.marks.items in
    let left = subst (λ (opened : OpenedAt _). IsLeftBy g.D.Disk opened at new) talked.opened c.into_disk.ensures.left in
    talked_on g.D.Disk (λ old. Unit {0}) c.args.commands.items c.args.limits out c.args.disk new _ marks store at c.in-Ok.ensures.opened tt c.in-Ok.ensures.called left talked.ran c.status_of_halt.result (Ok tt)
    (c.status_of_halt.ensures ∙ ap halted_status c.halted.ensures.halted) talked.done tt (λ is. absurd (cc))

pub returns-in-Ok-answer_over-clause-accepts : goal.returns-in-Ok-answer_over-clause-accepts
returns-in-Ok-answer_over-clause-accepts g c told journal on taken why is = halt_tells c.halted.result why (sym c.status_of_halt.ensures ∙ is)

pub returns-in-Ok-answer_over-clause-run_by : goal.returns-in-Ok-answer_over-clause-run_by
returns-in-Ok-answer_over-clause-run_by g c = run_less _ _ c.in-Ok-answer_over.ensures.ran.2

pub returns-in-Err-answer_over-clause-outcome : goal.returns-in-Err-answer_over-clause-outcome
returns-in-Err-answer_over-clause-outcome g c =
    let store = c.in-Ok.store in
    let stopped = c.in-Err-answer_over.ensures.stopped in
    let out = sink_use g.K.Sink c.args.out.now c.answer_over.new.out in
    let new = c.in-Err-answer_over.disk in
    let marks = c.answer_over.new.marks.items in
    talked_stopped g.D.Disk (λ old. Unit {0}) c.args.commands.items c.args.limits out c.args.disk new _ marks store stopped.0 c.in-Ok.ensures.opened tt c.in-Ok.ensures.called stopped.2 stopped.3 c.status.result
    c.in-Err-answer_over.stop c.status.ensures stopped.1 c.in-Err-answer_over.ensures.fault

pub returns-in-Err-answer_over-clause-accepts : goal.returns-in-Err-answer_over-clause-accepts
returns-in-Err-answer_over-clause-accepts g c told journal on taken why is = stop_tells c.in-Err-answer_over.stop why (sym c.status.ensures ∙ is)

pub returns-in-Err-answer_over-clause-run_by : goal.returns-in-Err-answer_over-clause-run_by
returns-in-Err-answer_over-clause-run_by g c = run_less _ _ c.in-Err-answer_over.ensures.stopped.3.2

pub returns-in-Err-clause-outcome : goal.returns-in-Err-clause-outcome
returns-in-Err-clause-outcome g c =
    let out = sink_use g.K.Sink c.args.out.now c.args.out.now in
    let new = c.in-Err.disk in
    let marks = c.args.marks.now.items in
    talked_unopened g.D.Disk (λ old. Unit {0}) c.args.commands.items c.args.limits out c.args.disk new _ marks c.status_of.result c.in-Err.why c.status_of.ensures c.in-Err.ensures.failed c.requires.fresh (λ told. refl)

pub returns-in-Err-clause-accepts : goal.returns-in-Err-clause-accepts
returns-in-Err-clause-accepts g c told journal on taken why is = unjudged_tells c.in-Err.why why (c.in-Err.ensures.failed.unjudged told journal on) (sym c.status_of.ensures ∙ is)

pub returns-in-Err-clause-run_by : goal.returns-in-Err-clause-run_by
returns-in-Err-clause-run_by g c = run_none _ _
