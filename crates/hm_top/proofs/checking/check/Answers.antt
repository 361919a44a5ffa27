use Rattle.std.proofs.Common.{Err, ap, refl, sym, ◌∙◌, subst}
use Rattle.hm_sheet.specs.Registry.{sheets_at, sheets_by, whole_of}
use Rattle.hm_journal.specs.Stored.{IsOnDisk, IsOnDiskByKind}
use Rattle.hm_journal.specs.Verdict.{Refuses}
use Rattle.hm_journal.proofs.Refusing.{of_kinds}
use Rattle.hm_commands.proofs.Registries.{used_are}
use Rattle.hm_top.specs.Ports.{disk_use, sink_use}
use Rattle.hm_top.proofs.Checks.{check_cut, checked, unchecked}
use Rattle.hm_top.proofs.Refusals.{unjudged_tells}
use Rattle.hm_top.proofs.checking.check.Goals as goal

pub returns-in-Err-clause-ends : goal.returns-in-Err-clause-ends
returns-in-Err-clause-ends g c =
    let f = λ (r : _). sheets_by (goal.Handler-dyn g) r in
    let listed = used_are f (λ (r : _). whole_of r) (λ (r : _). sheets_at r) c.args.hands.now.items c.requires.agree c.requires.each c.index.result.now c.index.ensures c.as_slice.result.now (c.as_slice.ensures ∙ c.sheets-sheets.ensures) in
    let seen = g.D.Disk.seen c.args.disk.now in
    unchecked (sink_use g.K.Sink c.args.out.now c.args.out.now) (disk_use g.D.Disk c.args.disk.now c.check.new.disk) _ c.check.ensures.only_reads (λ told. refl) c.status_of.result c.in-Err.why c.status_of.ensures
    (λ is. c.check.ensures.fault (c.in-Err.is ∙ ap Err is)) (λ told. subst (λ l. Refuses l seen c.in-Err.why) (sym listed) (c.in-Err.ensures.why told))

pub returns-in-Err-clause-accepts : goal.returns-in-Err-clause-accepts
returns-in-Err-clause-accepts g c told journal on taken why is =
    let f = λ (r : _). sheets_by (goal.Handler-dyn g) r in
    let listed = used_are f (λ (r : _). whole_of r) (λ (r : _). sheets_at r) c.args.hands.now.items c.requires.agree c.requires.each c.index.result.now c.index.ensures c.as_slice.result.now (c.as_slice.ensures ∙ c.sheets-sheets.ensures) in
    let here = subst (λ l. IsOnDisk l (g.D.Disk.seen c.args.disk.now) journal) listed on in
    unjudged_tells c.in-Err.why why (c.in-Err.ensures.accepts told journal (here.opens, of_kinds c.as_slice.result.now journal here.is)) (sym c.status_of.ensures ∙ is)

pub returns-in-Ok-say-clause-ends : goal.returns-in-Ok-say-clause-ends
returns-in-Ok-say-clause-ends g c =
    let f = λ (r : _). sheets_by (goal.Handler-dyn g) r in
    let listed = used_are f (λ (r : _). whole_of r) (λ (r : _). sheets_at r) c.args.hands.now.items c.requires.agree c.requires.each c.index.result.now c.index.ensures c.as_slice.result.now (c.as_slice.ensures ∙ c.sheets-sheets.ensures) in
    let seen = g.D.Disk.seen c.args.disk.now in
    checked (sink_use g.K.Sink c.args.out.now c.say.new.out) (disk_use g.D.Disk c.args.disk.now c.check.new.disk) _ c.check.ensures.only_reads c.in-Ok.entries
    (λ told. let found = c.in-Ok.ensures.count told in (found.0, subst (λ l. IsOnDiskByKind l seen found.0) (sym listed) found.1, found.2)) c.in-Ok-legal.line c.in-Ok-legal.ensures c.in-Ok-say.ensures.all

pub returns-in-Err-say-clause-ends : goal.returns-in-Err-say-clause-ends
returns-in-Err-say-clause-ends g c =
    let f = λ (r : _). sheets_by (goal.Handler-dyn g) r in
    let listed = used_are f (λ (r : _). whole_of r) (λ (r : _). sheets_at r) c.args.hands.now.items c.requires.agree c.requires.each c.index.result.now c.index.ensures c.as_slice.result.now (c.as_slice.ensures ∙ c.sheets-sheets.ensures) in
    let seen = g.D.Disk.seen c.args.disk.now in
    check_cut (sink_use g.K.Sink c.args.out.now c.say.new.out) (disk_use g.D.Disk c.args.disk.now c.check.new.disk) _ c.check.ensures.only_reads c.in-Ok.entries
    (λ told. let found = c.in-Ok.ensures.count told in (found.0, subst (λ l. IsOnDiskByKind l seen found.0) (sym listed) found.1, found.2)) c.in-Ok-legal.line c.in-Ok-legal.ensures c.in-Err-say.ensures.cause.failed c.in-Err-say.ensures.part
