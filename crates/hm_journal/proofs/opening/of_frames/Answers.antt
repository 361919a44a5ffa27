use Rattle.std.proofs.Common.{◌∙◌, ◌⊎◌, List, inl, length, ap, sym, subst}
use Rattle.std.proofs.lemmas.Result.{IfErr-weaker, IfOk-weaker}
use Rattle.hm_ports.specs.Faults.{Rose}
use Rattle.hm_disk.proofs.Moments.{weaker}
use Rattle.hm_disk.specs.Called.{IsCalled}
use Rattle.hm_disk.specs.Disk.{LeavesOnly}
use Rattle.hm_log.specs.Format.{Reads}
use Rattle.hm_data.specs.declared.entry.Entry.{Entry}
use Rattle.hm_hall.specs.Recording.{Recording}
use Rattle.hm_model.specs.Journal.{back}
use Rattle.hm_journal.specs.Stored.{IsJournal, GetsFirst, HoldsJournal, frames_of}
use Rattle.hm_journal.proofs.Images.{began_keeps, err_both, gets_first, image_now, keeps_none, ok_both}
use Rattle.hm_journal.proofs.Moving.{uncalled}
use Rattle.hm_journal.proofs.opening.of_frames.Goals as goal

pub journal_of-requires-clause-durable : goal.journal_of-requires-clause-durable
journal_of-requires-clause-durable g c tells bytes is = subst (Reads bytes) (sym c.in-Ok.ensures.found.spelled) (c.requires.durable tells bytes is)

pub returns-in-Ok-clause-state : goal.returns-in-Ok-clause-state
returns-in-Ok-clause-state g c =
    ok_both c.begin.result _ _ _ (λ r kept state. state ∙ sym (ap (λ (k : Recording). back k.entries) kept)) c.begin.ensures.kept c.begin.ensures.state

pub returns-in-Ok-clause-fresh : goal.returns-in-Ok-clause-fresh
returns-in-Ok-clause-fresh g c =
    let of = c.journal_of.ensures.kept in
    IfOk-weaker c.begin.result _ _
    (λ r kept. (
      ap (λ (k : Recording). k.next) kept ∙ ap (λ (k : Recording). k.next) of,
      ap (λ (k : Recording). k.tail) kept ∙ ap (λ (k : Recording). k.tail) of,
      ap (λ (k : Recording). k.halted) kept ∙ ap (λ (k : Recording). k.halted) of,
    ))
    c.begin.ensures.kept

pub returns-in-Ok-clause-limits : goal.returns-in-Ok-clause-limits
returns-in-Ok-clause-limits g c =
    let of = c.journal_of.ensures.kept in
    IfOk-weaker c.begin.result _ _
    (λ r kept. (
      ap (λ (k : Recording). k.soft) kept ∙ ap (λ (k : Recording). k.soft) of,
      ap (λ (k : Recording). k.hard) kept ∙ ap (λ (k : Recording). k.hard) of,
    ))
    c.begin.ensures.kept

pub returns-in-Ok-clause-why : goal.returns-in-Ok-clause-why
returns-in-Ok-clause-why g c = IfErr-weaker c.begin.result _ _ (λ e is. inl is) c.begin.ensures.why

pub returns-in-Ok-clause-fault : goal.returns-in-Ok-clause-fault
returns-in-Ok-clause-fault g c =
    IfErr-weaker c.begin.result _ _
    (λ e rose is. subst (λ disk. Rose (g.D.Disk.faults disk) (g.D.Disk.faults e.0)) c.journal_of.ensures.disk (rose is)) c.begin.ensures.fault

pub returns-in-Ok-clause-journal : goal.returns-in-Ok-clause-journal
returns-in-Ok-clause-journal g c =
    let d = g.D.Disk in
    let sheets = c.args.sheets.now in
    let entries = c.journal_of.result.kept.entries in
    let found = c.in-Ok.ensures.found in
    let are = ap (λ (kept : Recording). kept.entries) c.journal_of.ensures.kept in
    ok_both c.begin.result _ _ _
    (λ r kept same. (
      entries,
      subst (IsJournal sheets) (sym are) found.is,
      ap frames_of are ∙ found.spelled,
      ap (λ (kept : Recording). kept.entries) kept,
      same ∙ c.journal_of.ensures.opened ∙ ap (λ (es : List Entry). record { disk = c.args.log.disk; count = length es }) (sym are),
    ))
    c.begin.ensures.kept c.begin.ensures.opened

pub returns-in-Ok-clause-same : goal.returns-in-Ok-clause-same
returns-in-Ok-clause-same g c tells =
    IfErr-weaker c.begin.result _ _
    (λ e untaken works bytes is. c.requires.durable tells bytes (subst (λ disk. g.D.Disk.image disk bytes) (untaken works ∙ c.journal_of.ensures.disk) is))
    c.begin.ensures.untaken

pub returns-in-Ok-clause-spared : goal.returns-in-Ok-clause-spared
returns-in-Ok-clause-spared g c tells =
    let d = g.D.Disk in
    let sheets = c.args.sheets.now in
    let frames = c.args.frames in
    let kept = c.journal_of.result.kept.entries in
    let are = ap frames_of (ap (λ (kept : Recording). kept.entries) c.journal_of.ensures.kept) ∙ c.in-Ok.ensures.found.spelled in
    err_both c.begin.result _ _ _
    (λ e none began journal journal_are bytes is.
    let moves = began_keeps d sheets kept c.journal_of.result.disk e.0 none began tells in
    keeps_none sheets kept journal frames bytes none are journal_are
    (image_now d.moment d.left_since d.image g.met.D.Disk.counts_now c.journal_of.result.disk e.0 (HoldsJournal sheets kept) moves bytes is))
    c.begin.ensures.empty c.begin.ensures.began

pub returns-in-Ok-clause-any_moment : goal.returns-in-Ok-clause-any_moment
returns-in-Ok-clause-any_moment g c tells =
    let d = g.D.Disk in
    let sheets = c.args.sheets.now in
    let frames = c.args.frames in
    let kept = c.journal_of.result.kept.entries in
    let are = ap frames_of (ap (λ (kept : Recording). kept.entries) c.journal_of.ensures.kept) ∙ c.in-Ok.ensures.found.spelled in
    err_both c.begin.result _ _ _
    (λ e none began.
    let moves = began_keeps d sheets kept c.journal_of.result.disk e.0 none began tells in
    subst (λ disk. LeavesOnly d.moment d.left_since disk e.0 (λ bytes. Reads bytes frames ⊎ GetsFirst sheets frames bytes)) c.journal_of.ensures.disk
    (weaker d.moment d.left_since c.journal_of.result.disk e.0 (HoldsJournal sheets kept) (λ bytes. Reads bytes frames ⊎ GetsFirst sheets frames bytes)
    (λ bytes keeps. gets_first sheets kept frames bytes none are keeps) moves))
    c.begin.ensures.empty c.begin.ensures.began

pub returns-in-Ok-clause-called : goal.returns-in-Ok-clause-called
returns-in-Ok-clause-called g c =
    IfErr-weaker c.begin.result _ _ (λ e began. subst (λ disk. IsCalled g.D.Disk 2 disk e.0) c.journal_of.ensures.disk began.called) c.begin.ensures.began

pub returns-in-Err-clause-called : goal.returns-in-Err-clause-called
returns-in-Err-clause-called g c = subst (λ disk. IsCalled g.D.Disk 2 c.args.log.disk disk) (sym c.into_disk.ensures.disk) (uncalled g.D.Disk 2 c.args.log.disk)
