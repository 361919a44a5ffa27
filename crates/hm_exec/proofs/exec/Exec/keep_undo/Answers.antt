use Rattle.std.proofs.Common.{◌+◌, ap, subst, sym, ◌∙◌}
use Rattle.std.proofs.lemmas.Result.{err_from_is_err_and}
use Rattle.hm_data.specs.declared.entry.Entry.TheVariants as entry_is
use Rattle.hm_model.specs.Journal.{Past}
use Rattle.hm_model.specs.Locks.{IsIn}
use Rattle.hm_model.specs.Claims.{Unclaims}
use Rattle.hm_roster.specs.Behind.{IsUndoOf}
use Rattle.hm_roster.specs.Roster.{Follows, claims_on}
use Rattle.hm_exec.specs.Claiming.{Commits, RefusesCommit}
use Rattle.hm_exec.specs.View.{ExecView, moment_of}
use Rattle.hm_exec.proofs.Committed.{CanCommit, commits_now, goes_on_by, refuses_now, undo_behind, undo_is, undo_now}
use Rattle.hm_exec.proofs.Fitted.{undo_fits}
use Rattle.hm_exec.proofs.Rooted.{stays}
use Rattle.hm_exec.proofs.exec.Exec.keep_undo.Goals as goal

pub add_made-requires-clause-allowed : goal.add_made-requires-clause-allowed
add_made-requires-clause-allowed g c =
    let kept = g.R.Recorder.kept c.self.inside.recorder in
    let past = c.self.inside.state.past in
    let taken = c.args.taken.now in
    let can = subst (λ (e : ExecView _). CanCommit (moment_of g.R.Recorder.kept e) taken c.args.out) (sym c.self.view_is) (c.requires.going, c.requires.claimed, c.requires.fresh, c.requires.answer) in
    let may = undo_now kept past c.self.inside.desk c.self.invariant taken c.args.out can c.journal-legal.ensures.legal c.fresh_answers_follow.ensures.undos c.requires.undo in
    may.0

pub add_made-requires-clause-fits : goal.add_made-requires-clause-fits
add_made-requires-clause-fits g c =
    let kept = g.R.Recorder.kept c.self.inside.recorder in
    let past = c.self.inside.state.past in
    let taken = c.args.taken.now in
    let can = subst (λ (e : ExecView _). CanCommit (moment_of g.R.Recorder.kept e) taken c.args.out) (sym c.self.view_is) (c.requires.going, c.requires.claimed, c.requires.fresh, c.requires.answer) in
    let may = undo_now kept past c.self.inside.desk c.self.invariant taken c.args.out can c.journal-legal.ensures.legal c.fresh_answers_follow.ensures.undos c.requires.undo in
    undo_fits kept past taken.was.pid taken.was.row c.args.out c.self.invariant.same c.journal-legal.ensures.legal c.halted-fits.ensures.fits may.0 c.entries_fit_frames.ensures.undo

pub invariant_of-self : goal.invariant_of-self
invariant_of-self g c =
    stays (g.R.Recorder.kept c.self.inside.recorder) (g.R.Recorder.kept c.add_made.new.recorder) c.self.inside.state.past c.add_made.new.state.past c.self.inside.desk c.add_made.new.desk c.self.invariant
    c.add_made.ensures.past c.in_err-number.ensures.follows c.add_made.ensures.claimed (entry_is.Undo c.args.taken.now.was.pid c.args.taken.now.was.row c.args.out) c.in_err-number.field-0.0 c.in_err-number.ensures.adds

pub behind_undo-requires : goal.behind_undo-requires
behind_undo-requires g c =
    let kept = g.R.Recorder.kept c.self.inside.recorder in
    let past = c.self.inside.state.past in
    let taken = c.args.taken.now in
    let can = subst (λ (e : ExecView _). CanCommit (moment_of g.R.Recorder.kept e) taken c.args.out) (sym c.self.view_is) (c.requires.going, c.requires.claimed, c.requires.fresh, c.requires.answer) in
    let may = undo_now kept past c.self.inside.desk c.self.invariant taken c.args.out can c.journal-legal.ensures.legal c.fresh_answers_follow.ensures.undos c.requires.undo in
    let records = c.in_ok-number.ensures.adds in
    let made_for = c.in_ok-number.ensures.behind in
    subst (λ (J : Past). IsUndoOf J taken.pid (c.last_pid-low.result + 1) c.alters-late.result c.add_made.new.desk) (sym c.records.ensures)
    (undo_behind kept (g.R.Recorder.kept c.add_made.new.recorder) past c.add_made.new.state.past c.in_ok-number.number c.self.invariant.same c.add_made.ensures.past taken.pid taken.was.pid taken.was.row c.args.out c.add_made.new.desk (c.last_pid-low.result + 1) c.alters-late.result records made_for
    (ap (λ n. n + 1) c.last_pid-low.ensures.last) may.1 c.alters-late.ensures (subst (IsIn taken.pid.0) (sym c.add_made.ensures.claimed) can.1))

pub invariant_of-self-2 : goal.invariant_of-self-2
invariant_of-self-2 g c =
    let kept = g.R.Recorder.kept c.self.inside.recorder in
    let past = c.self.inside.state.past in
    let taken = c.args.taken.now in
    let can = subst (λ (e : ExecView _). CanCommit (moment_of g.R.Recorder.kept e) taken c.args.out) (sym c.self.view_is) (c.requires.going, c.requires.claimed, c.requires.fresh, c.requires.answer) in
    let may = undo_now kept past c.self.inside.desk c.self.invariant taken c.args.out can c.journal-legal.ensures.legal c.fresh_answers_follow.ensures.undos c.requires.undo in
    let records = c.in_ok-number.ensures.adds in
    goes_on_by kept (g.R.Recorder.kept c.add_made.new.recorder) past c.add_made.new.state.past c.self.inside.desk c.behind_undo.new.self (entry_is.Undo taken.was.pid taken.was.row c.args.out) c.in_ok-number.number taken.pid.0 c.self.invariant c.add_made.ensures.past
    (subst (λ (J : Past). Follows J c.behind_undo.new.self) c.records.ensures c.behind_undo.ensures.follows) c.journal-legal.ensures.legal may.0 records
    (subst (λ l. Unclaims taken.pid.0 l (claims_on c.behind_undo.new.self)) c.add_made.ensures.claimed c.behind_undo.ensures.claimed)
    (λ q other is. other (is ∙ may.1))

pub returns-clause-kept : goal.returns-clause-kept
returns-clause-kept g c =
    let kept = g.R.Recorder.kept c.self.inside.recorder in
    let past = c.self.inside.state.past in
    let taken = c.args.taken.now in
    let can = subst (λ (e : ExecView _). CanCommit (moment_of g.R.Recorder.kept e) taken c.args.out) (sym c.self.view_is) (c.requires.going, c.requires.claimed, c.requires.fresh, c.requires.answer) in
    let may = undo_now kept past c.self.inside.desk c.self.invariant taken c.args.out can c.journal-legal.ensures.legal c.fresh_answers_follow.ensures.undos c.requires.undo in
    let records = c.in_ok-number.ensures.adds in
    subst (λ (e : ExecView _). Commits (moment_of g.R.Recorder.kept e) taken c.args.out c.in_ok-number.number (record { kept = g.R.Recorder.kept c.add_made.new.recorder; claimed = claims_on c.behind_undo.new.self })) c.self.view_is
    (commits_now kept past c.self.inside.desk c.self.invariant taken c.args.out can (entry_is.Undo taken.was.pid taken.was.row c.args.out) (undo_is taken c.args.out c.requires.undo) may.0 (g.R.Recorder.kept c.add_made.new.recorder) (claims_on c.behind_undo.new.self) c.in_ok-number.number records
    (subst (λ l. Unclaims taken.pid.0 l (claims_on c.behind_undo.new.self)) c.add_made.ensures.claimed c.behind_undo.ensures.claimed))

pub returns-in_err-number-clause-refused : goal.returns-in_err-number-clause-refused
returns-in_err-number-clause-refused g c =
    let kept = g.R.Recorder.kept c.self.inside.recorder in
    let past = c.self.inside.state.past in
    let taken = c.args.taken.now in
    let can = subst (λ (e : ExecView _). CanCommit (moment_of g.R.Recorder.kept e) taken c.args.out) (sym c.self.view_is) (c.requires.going, c.requires.claimed, c.requires.fresh, c.requires.answer) in
    let may = undo_now kept past c.self.inside.desk c.self.invariant taken c.args.out can c.journal-legal.ensures.legal c.fresh_answers_follow.ensures.undos c.requires.undo in
    let told =
    subst (λ (e : ExecView _). RefusesCommit (moment_of g.R.Recorder.kept e) taken c.args.out c.in_err-number.field-0.0 (record { kept = g.R.Recorder.kept c.add_made.new.recorder; claimed = claims_on c.add_made.new.desk })) c.self.view_is
    (refuses_now kept past c.self.inside.desk c.self.invariant taken c.args.out can (entry_is.Undo taken.was.pid taken.was.row c.args.out) (undo_is taken c.args.out c.requires.undo) may.0 (g.R.Recorder.kept c.add_made.new.recorder) (claims_on c.add_made.new.desk) c.in_err-number.field-0.0 c.in_err-number.ensures.adds c.add_made.ensures.claimed) in
    let p = err_from_is_err_and c.from_residual.result c.from_residual.ensures.1 in
    rw (p.1, p.2) told
