use Rattle.std.proofs.Common.{◌≢◌, List, not, ap, sym, subst, ◌∙◌, refl, inl, inr}
use Rattle.std.proofs.lemmas.Bool.{false≢true}
use Rattle.std.proofs.lemmas.Result.{err_from_is_err_and, on_ok_weaker}
use Rattle.hm_data.specs.declared.sheet.Sheet.{Sheet}
use Rattle.hm_model.specs.Base.{AreSheets}
use Rattle.hm_model.specs.Sheets.{sheets_of}
use Rattle.hm_model.proofs.Grown.{begun_some}
use Rattle.hm_judge.proofs.Rules.{broken_by}
use Rattle.hm_judge.proofs.Stepping.{not_true}
use Rattle.hm_judge.proofs.judge.judged.Goals as goal

pub returns-in_err-rule-in-Submit-2-clause-broken : goal.returns-in_err-rule-in-Submit-2-clause-broken
returns-in_err-rule-in-Submit-2-clause-broken c =
    let p = err_from_is_err_and c.from_residual-in_err-rule-in-Submit-2.result c.from_residual-in_err-rule-in-Submit-2.ensures.1 in
    let broken = c.in_err-rule-in-Submit-2.ensures.broken in
    let may = c.may_submit.ensures.0 c.in_ok-rule-in-Submit.ensures.ok in
    rw (p.1, p.2, c.in-Submit.is) (inr (c.requires.begun, inr (may, inl (broken.0, λ it. false≢true (sym broken.1 ∙ c.is_fresh.ensures.1 it)))))

pub returns-in_ok-rule-in-Submit-2-clause-ok : goal.returns-in_ok-rule-in-Submit-2-clause-ok
returns-in_ok-rule-in-Submit-2-clause-ok c =
    let may = c.may_submit.ensures.0 c.in_ok-rule-in-Submit.ensures.ok in
    let fresh = c.is_fresh.ensures.0 c.in_ok-rule-in-Submit-2.ensures.ok in
    on_ok_weaker c.rule-in-Submit-2.result
    (λ on. rw c.in-Submit.is (λ e. c.requires.begun, (λ e. may, (λ e. fresh, (λ e. c.stays_within.ensures.0 on, tt)))))
    c.rule-in-Submit-2.ensures.ok

pub returns-in_ok-rule-in-Submit-2-clause-broken : goal.returns-in_ok-rule-in-Submit-2-clause-broken
returns-in_ok-rule-in-Submit-2-clause-broken c =
    let may = c.may_submit.ensures.0 c.in_ok-rule-in-Submit.ensures.ok in
    let fresh = c.is_fresh.ensures.0 c.in_ok-rule-in-Submit-2.ensures.ok in
    broken_by c.args.records.now.past c.args.entry.now 4 c.stays_within.result c.rule-in-Submit-2.result
    (λ k is off. rw c.in-Submit.is (inr (c.requires.begun, inr (may, inr (fresh, inl (is, λ it. false≢true (sym off ∙ c.stays_within.ensures.1 it)))))))
    c.rule-in-Submit-2.ensures.broken

pub returns-in_err-rule-in-Step-clause-broken : goal.returns-in_err-rule-in-Step-clause-broken
returns-in_err-rule-in-Step-clause-broken c =
    let p = err_from_is_err_and c.from_residual-in_err-rule-in-Step.result c.from_residual-in_err-rule-in-Step.ensures.1 in
    let broken = c.in_err-rule-in-Step.ensures.broken in
    rw (p.1, p.2, c.in-Step.is) (inr (c.requires.begun, inl (broken.0, λ it. false≢true (sym broken.1 ∙ c.may_step.ensures.1 it))))

pub returns-in_err-rule-in-Step-2-clause-broken : goal.returns-in_err-rule-in-Step-2-clause-broken
returns-in_err-rule-in-Step-2-clause-broken c =
    let p = err_from_is_err_and c.from_residual-in_err-rule-in-Step-2.result c.from_residual-in_err-rule-in-Step-2.ensures.1 in
    let broken = c.in_err-rule-in-Step-2.ensures.broken in
    let may = c.may_step.ensures.0 c.in_ok-rule-in-Step.ensures.ok in
    rw (p.1, p.2, c.in-Step.is) (inr (c.requires.begun, inr (may, inl (broken.0, λ clear. false≢true (sym broken.1 ∙ c.is_free.ensures.1 clear)))))

pub returns-in_ok-rule-in-Step-2-clause-ok : goal.returns-in_ok-rule-in-Step-2-clause-ok
returns-in_ok-rule-in-Step-2-clause-ok c =
    let may = c.may_step.ensures.0 c.in_ok-rule-in-Step.ensures.ok in
    let clear = c.is_free.ensures.0 c.in_ok-rule-in-Step-2.ensures.ok in
    on_ok_weaker c.rule-in-Step-3.result
    (λ picks. rw c.in-Step.is (λ e. c.requires.begun, (λ e. may, (λ e. clear, (λ e. c.picks_right.ensures.0 picks, (λ not_it. absurd (not_it refl), tt))))))
    c.rule-in-Step-3.ensures.ok

pub returns-in_ok-rule-in-Step-2-clause-broken : goal.returns-in_ok-rule-in-Step-2-clause-broken
returns-in_ok-rule-in-Step-2-clause-broken c =
    let may = c.may_step.ensures.0 c.in_ok-rule-in-Step.ensures.ok in
    let clear = c.is_free.ensures.0 c.in_ok-rule-in-Step-2.ensures.ok in
    broken_by c.args.records.now.past c.args.entry.now 7 c.picks_right.result c.rule-in-Step-3.result
    (λ k is off. rw c.in-Step.is (inr (c.requires.begun, inr (may, inr (clear, inl (is, λ picks. false≢true (sym off ∙ c.picks_right.ensures.1 picks)))))))
    c.rule-in-Step-3.ensures.broken

pub returns-in-Undo-clause-ok : goal.returns-in-Undo-clause-ok
returns-in-Undo-clause-ok c =
    on_ok_weaker c.rule-in-Undo.result
    (λ on. rw c.in-Undo.is (λ e. c.requires.begun, (λ e. c.is_latest.ensures.0 on, (λ not_it. absurd (not_it refl), tt))))
    c.rule-in-Undo.ensures.ok

pub returns-in-Undo-clause-broken : goal.returns-in-Undo-clause-broken
returns-in-Undo-clause-broken c =
    broken_by c.args.records.now.past c.args.entry.now 9 c.is_latest.result c.rule-in-Undo.result
    (λ k is off. rw c.in-Undo.is (inr (c.requires.begun, inl (is, λ it. false≢true (sym off ∙ c.is_latest.ensures.1 it)))))
    c.rule-in-Undo.ensures.broken

pub returns-in_err-rule-in-Report-clause-broken : goal.returns-in_err-rule-in-Report-clause-broken
returns-in_err-rule-in-Report-clause-broken c =
    let p = err_from_is_err_and c.from_residual-in_err-rule-in-Report.result c.from_residual-in_err-rule-in-Report.ensures.1 in
    let broken = c.in_err-rule-in-Report.ensures.broken in
    rw (p.1, p.2, c.in-Report.is) (inr (c.requires.begun, inl (broken.0, λ it. false≢true (sym broken.1 ∙ c.is_outstanding.ensures.1 it))))

pub returns-in_ok-rule-in-Report-clause-ok : goal.returns-in_ok-rule-in-Report-clause-ok
returns-in_ok-rule-in-Report-clause-ok c =
    let first = c.in_ok-rule-in-Report.ensures.ok in
    on_ok_weaker c.rule-in-Report-2.result
    (λ on. rw c.in-Report.is (λ e. c.requires.begun, (λ e. c.is_outstanding.ensures.0 first, (λ e. c.fits_call.ensures.0 on, tt))))
    c.rule-in-Report-2.ensures.ok

pub returns-in_ok-rule-in-Report-clause-broken : goal.returns-in_ok-rule-in-Report-clause-broken
returns-in_ok-rule-in-Report-clause-broken c =
    let first = c.in_ok-rule-in-Report.ensures.ok in
    broken_by c.args.records.now.past c.args.entry.now 12 c.fits_call.result c.rule-in-Report-2.result
    (λ k is off. rw c.in-Report.is (inr (c.requires.begun, inr (c.is_outstanding.ensures.0 first, inl (is, λ it. false≢true (sym off ∙ c.fits_call.ensures.1 it))))))
    c.rule-in-Report-2.ensures.broken

pub returns-in_err-rule-in-Up-clause-broken : goal.returns-in_err-rule-in-Up-clause-broken
returns-in_err-rule-in-Up-clause-broken c =
    let p = err_from_is_err_and c.from_residual-in_err-rule-in-Up.result c.from_residual-in_err-rule-in-Up.ensures.1 in
    let broken = c.in_err-rule-in-Up.ensures.broken in
    rw (p.1, p.2, c.in-Up.is) (inr (c.requires.begun, inl (broken.0, λ it. false≢true (sym broken.1 ∙ ap not (c.has_newer.ensures ∙ it)))))

pub returns-in_ok-rule-in-Up-clause-ok : goal.returns-in_ok-rule-in-Up-clause-ok
returns-in_ok-rule-in-Up-clause-ok c =
    let first = c.in_ok-rule-in-Up.ensures.ok in
    on_ok_weaker c.rule-in-Up-2.result
    (λ on. rw c.in-Up.is (λ e. c.requires.begun, (λ e. sym c.has_newer.ensures ∙ not_true c.has_newer.result first, (λ e. sym c.has_older_live.ensures ∙ not_true c.has_older_live.result on, tt))))
    c.rule-in-Up-2.ensures.ok

pub returns-in_ok-rule-in-Up-clause-broken : goal.returns-in_ok-rule-in-Up-clause-broken
returns-in_ok-rule-in-Up-clause-broken c =
    let first = c.in_ok-rule-in-Up.ensures.ok in
    broken_by c.args.records.now.past c.args.entry.now 14 (not c.has_older_live.result) c.rule-in-Up-2.result
    (λ k is off. rw c.in-Up.is (inr (c.requires.begun, inr (sym c.has_newer.ensures ∙ not_true c.has_newer.result first, inl (is, λ it. false≢true (sym off ∙ ap not (c.has_older_live.ensures ∙ it)))))))
    c.rule-in-Up-2.ensures.broken

pub returns-in-Down-clause-ok : goal.returns-in-Down-clause-ok
returns-in-Down-clause-ok c =
    on_ok_weaker c.rule-in-Down.result
    (λ on. rw c.in-Down.is (λ e. c.requires.begun, (λ e. sym c.is_live.ensures ∙ on, tt)))
    c.rule-in-Down.ensures.ok

pub returns-in-Down-clause-broken : goal.returns-in-Down-clause-broken
returns-in-Down-clause-broken c =
    broken_by c.args.records.now.past c.args.entry.now 15 c.is_live.result c.rule-in-Down.result
    (λ k is off. rw c.in-Down.is (inr (c.requires.begun, inl (is, λ it. false≢true (sym off ∙ c.is_live.ensures ∙ it)))))
    c.rule-in-Down.ensures.broken

pub returns-in_err-rule-in-Abort-clause-broken : goal.returns-in_err-rule-in-Abort-clause-broken
returns-in_err-rule-in-Abort-clause-broken c =
    let p = err_from_is_err_and c.from_residual-in_err-rule-in-Abort.result c.from_residual-in_err-rule-in-Abort.ensures.1 in
    let broken = c.in_err-rule-in-Abort.ensures.broken in
    rw (p.1, p.2, c.in-Abort.is) (inr (c.requires.begun, inl (broken.0, λ it. false≢true (sym broken.1 ∙ c.can_abort.ensures.1 it))))

pub returns-in_ok-rule-in-Abort-clause-ok : goal.returns-in_ok-rule-in-Abort-clause-ok
returns-in_ok-rule-in-Abort-clause-ok c =
    let first = c.in_ok-rule-in-Abort.ensures.ok in
    on_ok_weaker c.rule-in-Abort-2.result
    (λ on. rw c.in-Abort.is (λ e. c.requires.begun, (λ e. c.can_abort.ensures.0 first, (λ e. c.is_before_point.ensures.0 on, tt))))
    c.rule-in-Abort-2.ensures.ok

pub returns-in_ok-rule-in-Abort-clause-broken : goal.returns-in_ok-rule-in-Abort-clause-broken
returns-in_ok-rule-in-Abort-clause-broken c =
    let first = c.in_ok-rule-in-Abort.ensures.ok in
    broken_by c.args.records.now.past c.args.entry.now 17 c.is_before_point.result c.rule-in-Abort-2.result
    (λ k is off. rw c.in-Abort.is (inr (c.requires.begun, inr (c.can_abort.ensures.0 first, inl (is, λ it. false≢true (sym off ∙ c.is_before_point.ensures.1 it))))))
    c.rule-in-Abort-2.ensures.broken

pub returns-in-Start-clause-broken : goal.returns-in-Start-clause-broken
returns-in-Start-clause-broken c = rw c.in-Start.is (inl (refl, λ first. begun_some c.args.records.now.past c.requires.begun first.0))

pub returns-in-Adopt-clause-ok : goal.returns-in-Adopt-clause-ok
returns-in-Adopt-clause-ok c =
    on_ok_weaker c.rule-in-Adopt.result
    (λ on. rw c.in-Adopt.is (λ e. c.requires.begun, (λ e. subst (λ (l : List Sheet). AreSheets l × (l ≢ sheets_of c.args.records.now.past)) c.as_slice.ensures (c.can_adopt.ensures.0 on), tt)))
    c.rule-in-Adopt.ensures.ok

pub returns-in-Adopt-clause-broken : goal.returns-in-Adopt-clause-broken
returns-in-Adopt-clause-broken c =
    broken_by c.args.records.now.past c.args.entry.now 19 c.can_adopt.result c.rule-in-Adopt.result
    (λ k is off. rw c.in-Adopt.is (inr (c.requires.begun, inl (is, λ it. false≢true (sym off ∙ c.can_adopt.ensures.1 (subst (λ (l : List Sheet). AreSheets l × (l ≢ sheets_of c.args.records.now.past)) (sym c.as_slice.ensures) it))))))
    c.rule-in-Adopt.ensures.broken
