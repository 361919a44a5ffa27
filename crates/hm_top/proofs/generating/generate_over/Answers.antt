use Rattle.std.proofs.Common.{◌≤◌, refl, sym, ap, ◌∙◌, subst, arith}
use Rattle.hm_hall.specs.Recording.{Recording, past_in}
use Rattle.hm_model.specs.Image.{counted}
use Rattle.hm_journal.specs.Opened.{Opened as OpenedAt}
use Rattle.hm_commands.specs.Scenes.{halt_at}
use Rattle.hm_commands.specs.View.{IsLeftBy, scene_in}
use Rattle.hm_commands.proofs.Ran.{run_less, run_none}
use Rattle.hm_top.specs.Generating.{TellsOf}
use Rattle.hm_top.specs.Ports.{sink_use}
use Rattle.hm_top.specs.Run.{before_line}
use Rattle.hm_top.proofs.Generates.{line_tells}
use Rattle.hm_top.proofs.Makes.{made_refused, made_stopped, made_told, made_unopened}
use Rattle.hm_top.proofs.Offered.{made_offered}
use Rattle.hm_top.proofs.Refusals.{stop_tells}
use Rattle.hm_top.proofs.Makes.{not_refused}
use Rattle.hm_top.proofs.generating.generate_over.Goals as goal

pub answer_over-requires-clause-offered : goal.answer_over-requires-clause-offered
answer_over-requires-clause-offered g c = made_offered c.in-Ok.commands.items c.in-Ok.ensures.own

pub answer_over-requires-clause-going : goal.answer_over-requires-clause-going
answer_over-requires-clause-going g c = ap (λ (k : Recording). k.halted) c.in-Ok-open_for.ensures.opened.2

pub returns-in_default-clause-run_by : goal.returns-in_default-clause-run_by
returns-in_default-clause-run_by g c = run_none _ _

pub returns-in-Err-clause-run_by : goal.returns-in-Err-clause-run_by
returns-in-Err-clause-run_by g c = run_none _ _

pub returns-then-entries-gt1-clause-run_by : goal.returns-then-entries-gt1-clause-run_by
returns-then-entries-gt1-clause-run_by g c = run_none _ _

pub returns-in-Err-clause-ends : goal.returns-in-Err-clause-ends
returns-in-Err-clause-ends g c =
    made_unopened g.D.Disk c.args.limits c.args.disk c.in-Err.disk _ c.args.marks.now.items c.args.seed c.args.count (sink_use g.K.Sink c.args.out.now c.args.out.now) c.in-Ok.commands.items c.in-Ok.ensures.script (λ told. refl)
    c.status_of.result c.in-Err.why c.status_of.ensures c.in-Err.ensures.failed c.requires.fresh

pub returns-then-entries-gt1-clause-ends : goal.returns-then-entries-gt1-clause-ends
returns-then-entries-gt1-clause-ends g c =
    let open_for = c.in-Ok-open_for.ensures in
    made_refused g.D.Disk c.args.limits c.args.disk c.into_disk.result _ c.args.marks.now.items c.args.seed c.args.count (sink_use g.K.Sink c.args.out.now c.args.out.now) c.in-Ok.commands.items c.in-Ok.ensures.script
    c.in-Ok-open_for.store open_for.opened open_for.called (λ told. refl) c.into_disk.ensures (run_none _ _) c.counted-entries.result c.counted-entries.ensures c.if-entries-gt1.true c.requires.fresh

pub returns-then-entries-gt1-clause-accepts : goal.returns-then-entries-gt1-clause-accepts
returns-then-entries-gt1-clause-accepts g c told journal on fresh why is =
    let opens = c.in-Ok-open_for.ensures.opened in
    not_refused _ (g.D.Disk.seen c.args.disk) opens.0 journal c.in-Ok-open_for.store.kept opens.2 (opens.4 told).0 on c.counted-entries.result c.counted-entries.ensures c.if-entries-gt1.true fresh

pub returns-in-Ok-answer_over-clause-ends : goal.returns-in-Ok-answer_over-clause-ends
returns-in-Ok-answer_over-clause-ends g c =
    let open_for = c.in-Ok-open_for.ensures in
    let store = c.in-Ok-open_for.store in
    let talked = c.in-Ok-answer_over.ensures in
    let at = scene_in c.in-Ok-answer_over.cluster in
    let new = c.into_disk-in-Ok-answer_over.result in
    let few : counted (past_in store.kept) ≤ 1 = let all = c.counted-entries.ensures in let no = c.if-entries-gt1.false in omega arith in
    made_told g.D.Disk c.args.limits c.args.disk new _ c.answer_over.new.marks.items c.args.seed c.args.count (sink_use g.K.Sink c.args.out.now c.tell.new.out) c.in-Ok.commands.items c.in-Ok.ensures.script
    store open_for.opened open_for.called few at (subst (λ (opened : OpenedAt _). IsLeftBy g.D.Disk opened at new) talked.opened c.into_disk-in-Ok-answer_over.ensures.left) talked.ran talked.done c.tell.result c.tell.ensures.tells

pub returns-in-Ok-answer_over-clause-accepts : goal.returns-in-Ok-answer_over-clause-accepts
returns-in-Ok-answer_over-clause-accepts g c told journal on few why is =
    let out = sink_use g.K.Sink c.args.out.now c.tell.new.out in
    let at = scene_in c.in-Ok-answer_over.cluster in
    line_tells out (before_line out) c.args.seed c.args.count (halt_at at) at why (subst (TellsOf out (before_line out) c.args.seed c.args.count at) is c.tell.ensures.tells)

pub returns-in-Ok-answer_over-clause-run_by : goal.returns-in-Ok-answer_over-clause-run_by
returns-in-Ok-answer_over-clause-run_by g c = run_less _ _ c.in-Ok-answer_over.ensures.ran.2

pub returns-in-Err-answer_over-clause-ends : goal.returns-in-Err-answer_over-clause-ends
returns-in-Err-answer_over-clause-ends g c =
    let open_for = c.in-Ok-open_for.ensures in
    let store = c.in-Ok-open_for.store in
    let stopped = c.in-Err-answer_over.ensures.stopped in
    let few : counted (past_in store.kept) ≤ 1 = let all = c.counted-entries.ensures in let no = c.if-entries-gt1.false in omega arith in
    made_stopped g.D.Disk c.args.limits c.args.disk c.in-Err-answer_over.disk _ c.answer_over.new.marks.items c.args.seed c.args.count (sink_use g.K.Sink c.args.out.now c.args.out.now) c.in-Ok.commands.items c.in-Ok.ensures.script
    store open_for.opened open_for.called few stopped.0 stopped.2 stopped.3 (λ told. refl) c.status.result c.in-Err-answer_over.stop c.status.ensures stopped.1
    (λ is. let rose = c.in-Err-answer_over.ensures.fault is in absurd (omega (arith, rose)))

pub returns-in-Err-answer_over-clause-accepts : goal.returns-in-Err-answer_over-clause-accepts
returns-in-Err-answer_over-clause-accepts g c told journal on fresh why is = stop_tells c.in-Err-answer_over.stop why (sym c.status.ensures ∙ is)

pub returns-in-Err-answer_over-clause-run_by : goal.returns-in-Err-answer_over-clause-run_by
returns-in-Err-answer_over-clause-run_by g c = run_less _ _ c.in-Err-answer_over.ensures.stopped.3.2
