use Rattle.std.proofs.Common.{◌⊎◌, ◌∙◌, ap, arith, sym, subst, inl, inr, ⊎_elim}
use Rattle.std.proofs.lemmas.Result.{IfOk-weaker, IfErr-weaker, MatchResult-from_both}
use Rattle.hm_disk.specs.Called.{IsCalled}
use Rattle.hm_disk.specs.Disk.{LeavesThen}
use Rattle.hm_disk.proofs.Moments.{joined, weaker}
use Rattle.hm_log.specs.Format.{HoldsFrames, Reads}
use Rattle.hm_log.specs.Opening.{IsMaking, IsUsed}
use Rattle.hm_journal.specs.Opened.{Opened}
use Rattle.hm_journal.specs.Stored.{GetsFirst, IsOpening, frames_of, opened}
use Rattle.hm_journal.proofs.Images.{opening_first, opening_then, opening_vain, then_all}
use Rattle.hm_journal.proofs.Moving.{called_more, called_then, used_then}
use Rattle.hm_journal.proofs.Refusing.{not_refused, of_kinds, refuses_by, same_entries}
use Rattle.hm_journal.proofs.journal.Journal.open.Goals as goal

pub returns-in-Ok-clause-journal : goal.returns-in-Ok-clause-journal
returns-in-Ok-clause-journal g c =
    let d = g.D.Disk in
    let disk = c.args.disk in
    let seen = d.seen disk in
    let sheets = c.args.sheets.now in
    let mid = c.in-Ok.log.disk in
    let frames = c.in-Ok.frames in
    IfOk-weaker c.of_frames.result _ _
    (λ r journal. (
      journal.0,
      journal.1,
      journal.3,
      ap (λ (o : Opened _). o.count) journal.4,
      λ tells. (
        record { opens = subst (HoldsFrames seen) (sym journal.2) (c.in-Ok.ensures.opens tells); is = journal.1 },
        subst (λ fs. LeavesThen d.moment d.left_since disk r.0.opened.disk (λ bytes. d.image disk bytes ⊎ IsMaking seen bytes) (λ bytes. Reads bytes fs)) (sym journal.2)
            (subst (λ e. LeavesThen d.moment d.left_since disk e (λ bytes. d.image disk bytes ⊎ IsMaking seen bytes) (λ bytes. Reads bytes frames)) (sym (ap (λ (o : Opened _). o.disk) journal.4))
            (c.in-Ok.ensures.from_then_on tells)),
      ),
    ))
    c.of_frames.ensures.journal

pub returns-in-Ok-clause-accepts : goal.returns-in-Ok-clause-accepts
returns-in-Ok-clause-accepts g c tells journal on =
    let sheets = c.args.sheets.now in
    let are = sym (c.in-Ok.ensures.accepts tells (frames_of journal) on.opens) in
    MatchResult-from_both c.of_frames.result _ _
    (IfOk-weaker c.of_frames.result _ _ (λ r old. old.3 ∙ ap (opened sheets) (same_entries old.0 journal old.1.fits on.is.fits (old.2 ∙ sym are))) c.of_frames.ensures.journal)
    (IfErr-weaker c.of_frames.result _ _ (λ e. ⊎_elim (λ unjudged. unjudged) (λ none. inr (not_refused sheets journal c.in-Ok.frames e.1 (of_kinds sheets journal on.is) are none))) c.of_frames.ensures.why)

pub returns-in-Ok-clause-why : goal.returns-in-Ok-clause-why
returns-in-Ok-clause-why g c tells =
    IfErr-weaker c.of_frames.result _ _ (λ e none. refuses_by c.args.sheets.now (g.D.Disk.seen c.args.disk) c.in-Ok.frames e.1 (c.in-Ok.ensures.opens tells) none) c.of_frames.ensures.why

pub returns-in-Ok-clause-same : goal.returns-in-Ok-clause-same
returns-in-Ok-clause-same g c tells =
    IfErr-weaker c.of_frames.result _ _ (λ e same judged. inr (c.in-Ok.frames, c.in-Ok.ensures.opens tells, same judged)) (c.of_frames.ensures.same tells)

pub returns-in-Ok-clause-spared : goal.returns-in-Ok-clause-spared
returns-in-Ok-clause-spared g c tells =
    IfErr-weaker c.of_frames.result _ _
    (λ e spared journal some on.
    let all = spared journal (sym (c.in-Ok.ensures.accepts tells (frames_of journal) on.opens)) in
    (all (g.D.Disk.seen e.0) (g.met.D.Disk.reads_now e.0 tells), λ only. all))
    (c.of_frames.ensures.spared tells)

pub returns-in-Ok-clause-any_moment : goal.returns-in-Ok-clause-any_moment
returns-in-Ok-clause-any_moment g c tells =
    let d = g.D.Disk in
    let sheets = c.args.sheets.now in
    let seen = d.seen c.args.disk in
    let image = d.image c.args.disk in
    let frames = c.in-Ok.frames in
    let mid = c.in-Ok.log.disk in
    let opens = c.in-Ok.ensures.opens tells in
    IfErr-weaker c.of_frames.result _ _
    (λ e run.
    joined d.moment d.left_since c.args.disk mid e.0 (IsOpening sheets seen image)
    (weaker d.moment d.left_since c.args.disk mid (λ bytes. (image bytes ⊎ IsMaking seen bytes) ⊎ Reads bytes frames) (IsOpening sheets seen image) (opening_first sheets seen image frames opens)
    (then_all d.moment d.left_since d.image g.met.D.Disk.only_now c.args.disk mid (λ bytes. image bytes ⊎ IsMaking seen bytes) (λ bytes. Reads bytes frames) (λ bytes was. inl was) (c.in-Ok.ensures.from_then_on tells)))
    (weaker d.moment d.left_since mid e.0 (λ bytes. Reads bytes frames ⊎ GetsFirst sheets frames bytes) (IsOpening sheets seen image) (opening_then sheets seen image frames opens) run))
    (c.of_frames.ensures.any_moment tells)

pub returns-in-Err-clause-why : goal.returns-in-Err-clause-why
returns-in-Err-clause-why g c tells = c.in-Err.ensures.why tells c.args.sheets.now

pub returns-in-Err-clause-accepts : goal.returns-in-Err-clause-accepts
returns-in-Err-clause-accepts g c tells journal on = c.in-Err.ensures.accepts tells (frames_of journal) on.opens

pub returns-in-Err-clause-spared : goal.returns-in-Err-clause-spared
returns-in-Err-clause-spared g c tells journal some on = (
  inl (c.in-Err.ensures.left tells (frames_of journal) some on.opens),
  λ only bytes is. inl (c.in-Err.ensures.spared tells (frames_of journal) some only on.opens bytes is),
)

pub returns-in-Err-clause-any_moment : goal.returns-in-Err-clause-any_moment
returns-in-Err-clause-any_moment g c tells =
    let d = g.D.Disk in
    let seen = d.seen c.args.disk in
    let image = d.image c.args.disk in
    weaker d.moment d.left_since c.args.disk c.in-Err.refused.0 _ (IsOpening c.args.sheets.now seen image) (opening_vain c.args.sheets.now seen image) (c.in-Err.ensures.any_moment tells)

pub returns-in-Ok-clause-used : goal.returns-in-Ok-clause-used
returns-in-Ok-clause-used g c =
    let d = g.D.Disk in
    let used = c.in-Ok.ensures.used in
    MatchResult-from_both c.of_frames.result _ _
    (IfOk-weaker c.of_frames.result _ _ (λ r journal. subst (λ e. IsUsed d c.args.disk e) (sym (ap (λ (o : Opened _). o.disk) journal.4)) used) c.of_frames.ensures.journal)
    (IfErr-weaker c.of_frames.result _ _ (λ e then. used_then d 2 c.args.disk c.in-Ok.log.disk e.0 used then) c.of_frames.ensures.called)

pub returns-in-Ok-clause-no_fault : goal.returns-in-Ok-clause-no_fault
returns-in-Ok-clause-no_fault g c =
    IfOk-weaker c.of_frames.result _ _ (λ r journal. ap (λ (o : Opened _). g.D.Disk.faults o.disk) journal.4 ∙ c.in-Ok.ensures.no_fault) c.of_frames.ensures.journal

pub returns-in-Ok-clause-few : goal.returns-in-Ok-clause-few
returns-in-Ok-clause-few g c tells place =
    let d = g.D.Disk in
    let called = c.in-Ok.ensures.few tells place in
    MatchResult-from_both c.of_frames.result _ _
    (IfOk-weaker c.of_frames.result _ _ (λ r journal. subst (λ e. IsCalled d 1 c.args.disk e) (sym (ap (λ (o : Opened _). o.disk) journal.4)) called) c.of_frames.ensures.journal)
    (IfErr-weaker c.of_frames.result _ _ (λ e then. called_then d 1 2 c.args.disk c.in-Ok.log.disk e.0 called then) c.of_frames.ensures.called)

pub returns-in-Err-clause-few : goal.returns-in-Err-clause-few
returns-in-Err-clause-few g c tells place = called_more g.D.Disk 1 3 c.args.disk c.in-Err.refused.0 (omega arith) (c.in-Err.ensures.few tells place)

pub returns-in-Ok-clause-clean : goal.returns-in-Ok-clause-clean
returns-in-Ok-clause-clean g c tells clean =
    IfOk-weaker c.of_frames.result _ _
    (λ r journal. subst (λ e. IsCalled g.D.Disk 0 c.args.disk e) (sym (ap (λ (o : Opened _). o.disk) journal.4)) (c.in-Ok.ensures.clean tells clean))
    c.of_frames.ensures.journal
