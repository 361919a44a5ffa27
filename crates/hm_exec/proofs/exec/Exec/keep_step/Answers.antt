use Rattle.std.proofs.Common.{◌+◌, Err, Ok, ap, subst, sym}
use Rattle.std.proofs.lemmas.Result.{err_from_is_err_and}
use Rattle.hm_data.specs.declared.entry.Entry.{Entry}
use Rattle.hm_data.specs.declared.entry.Entry.TheVariants as entry_is
use Rattle.hm_hall.specs.Recording.{CanBeRecorded, Records}
use Rattle.hm_model.specs.Journal.{Past}
use Rattle.hm_model.specs.Laws.{is_part}
use Rattle.hm_model.specs.Locks.{IsIn}
use Rattle.hm_model.specs.Rules.{Allowed}
use Rattle.hm_model.specs.Claims.{Unclaims}
use Rattle.hm_roster.specs.Desk.{parent_made}
use Rattle.hm_roster.specs.Roster.{Follows, IsEnlistedFor, IsStepOf, claims_on}
use Rattle.hm_exec.specs.Adding.{Adds}
use Rattle.hm_exec.specs.Claiming.{Commits, RefusesCommit}
use Rattle.hm_exec.specs.View.{ExecView, moment_of}
use Rattle.hm_exec.proofs.Committed.{CanCommit, commits_now, goes_on_by, refuses_now, step_behind, step_is, step_now}
use Rattle.hm_exec.proofs.Fitted.{step_fits}
use Rattle.hm_exec.proofs.Rooted.{stays}
use Rattle.hm_exec.proofs.exec.Exec.keep_step.Goals as goal

pub add_made-requires-clause-allowed : goal.add_made-requires-clause-allowed
add_made-requires-clause-allowed g c =
    let kept = g.R.Recorder.kept c.self.inside.recorder in
    let past = c.self.inside.state.past in
    let taken = c.args.taken.now in
    let can = subst (λ (e : ExecView _). CanCommit (moment_of g.R.Recorder.kept e) taken c.args.out) (sym c.self.view_is) (c.requires.going, c.requires.claimed, c.requires.fresh, c.requires.answer) in
    let may = step_now kept past c.self.inside.desk c.self.invariant taken c.args.out can c.journal-legal.ensures.legal c.fresh_answers_follow.ensures.steps c.holds-apart.ensures.none_clash c.requires.step in
    subst (Allowed past) (sym c.in_ok-entry.ensures) may

pub add_made-requires-clause-other : goal.add_made-requires-clause-other
add_made-requires-clause-other g c = ap is_part c.in_ok-entry.ensures

pub add_made-requires-clause-fits : goal.add_made-requires-clause-fits
add_made-requires-clause-fits g c =
    let kept = g.R.Recorder.kept c.self.inside.recorder in
    let past = c.self.inside.state.past in
    let taken = c.args.taken.now in
    let can = subst (λ (e : ExecView _). CanCommit (moment_of g.R.Recorder.kept e) taken c.args.out) (sym c.self.view_is) (c.requires.going, c.requires.claimed, c.requires.fresh, c.requires.answer) in
    let may = step_now kept past c.self.inside.desk c.self.invariant taken c.args.out can c.journal-legal.ensures.legal c.fresh_answers_follow.ensures.steps c.holds-apart.ensures.none_clash c.requires.step in
    subst CanBeRecorded (sym c.in_ok-entry.ensures) (step_fits kept past taken.pid taken.was.pick c.args.out c.self.invariant.same c.journal-legal.ensures.legal c.halted-fits.ensures.fits may c.entries_fit_frames.ensures.step)

pub add_made-requires-clause-parent : goal.add_made-requires-clause-parent
add_made-requires-clause-parent g c =
    ap parent_made c.in_ok-entry.ensures

pub invariant_of-self : goal.invariant_of-self
invariant_of-self g c =
    stays (g.R.Recorder.kept c.self.inside.recorder) (g.R.Recorder.kept c.add_made.new.recorder) c.self.inside.state.past c.add_made.new.state.past c.self.inside.desk c.add_made.new.desk c.self.invariant
    c.add_made.ensures.past c.in_err-number.ensures.follows c.add_made.ensures.claimed c.in_ok-entry.entry c.in_err-number.field-0.0 c.in_err-number.ensures.adds

pub behind_step-requires : goal.behind_step-requires
behind_step-requires g c =
    let kept = g.R.Recorder.kept c.self.inside.recorder in
    let past = c.self.inside.state.past in
    let taken = c.args.taken.now in
    let can = subst (λ (e : ExecView _). CanCommit (moment_of g.R.Recorder.kept e) taken c.args.out) (sym c.self.view_is) (c.requires.going, c.requires.claimed, c.requires.fresh, c.requires.answer) in
    let records = subst (λ (e : Entry). Records kept e (Ok c.in_ok-number.number) (g.R.Recorder.kept c.add_made.new.recorder)) c.in_ok-entry.ensures c.in_ok-number.ensures.adds in
    let made_for = subst (λ (e : Entry). IsEnlistedFor c.add_made.new.state.past e c.add_made.new.desk) c.in_ok-entry.ensures c.in_ok-number.ensures.behind in
    subst (λ (J : Past). IsStepOf J taken.pid (c.last_pid-low.result + 1) c.alters-late.result c.add_made.new.desk) (sym c.records.ensures)
    (step_behind kept (g.R.Recorder.kept c.add_made.new.recorder) past c.add_made.new.state.past c.in_ok-number.number c.self.invariant.same c.add_made.ensures.past taken.pid taken.was.pick c.args.out c.add_made.new.desk (c.last_pid-low.result + 1) c.alters-late.result records made_for
    (ap (λ n. n + 1) c.last_pid-low.ensures.last) c.alters-late.ensures (subst (IsIn taken.pid.0) (sym c.add_made.ensures.claimed) can.1))

pub invariant_of-self-2 : goal.invariant_of-self-2
invariant_of-self-2 g c =
    let kept = g.R.Recorder.kept c.self.inside.recorder in
    let past = c.self.inside.state.past in
    let taken = c.args.taken.now in
    let can = subst (λ (e : ExecView _). CanCommit (moment_of g.R.Recorder.kept e) taken c.args.out) (sym c.self.view_is) (c.requires.going, c.requires.claimed, c.requires.fresh, c.requires.answer) in
    let may = step_now kept past c.self.inside.desk c.self.invariant taken c.args.out can c.journal-legal.ensures.legal c.fresh_answers_follow.ensures.steps c.holds-apart.ensures.none_clash c.requires.step in
    let records = subst (λ (e : Entry). Records kept e (Ok c.in_ok-number.number) (g.R.Recorder.kept c.add_made.new.recorder)) c.in_ok-entry.ensures c.in_ok-number.ensures.adds in
    goes_on_by kept (g.R.Recorder.kept c.add_made.new.recorder) past c.add_made.new.state.past c.self.inside.desk c.behind_step.new.self (entry_is.Step taken.pid taken.was.pick c.args.out) c.in_ok-number.number taken.pid.0 c.self.invariant c.add_made.ensures.past
    (subst (λ (J : Past). Follows J c.behind_step.new.self) c.records.ensures c.behind_step.ensures.follows) c.journal-legal.ensures.legal may records
    (subst (λ l. Unclaims taken.pid.0 l (claims_on c.behind_step.new.self)) c.add_made.ensures.claimed c.behind_step.ensures.claimed)
    (λ q other. other)

pub returns-clause-kept : goal.returns-clause-kept
returns-clause-kept g c =
    let kept = g.R.Recorder.kept c.self.inside.recorder in
    let past = c.self.inside.state.past in
    let taken = c.args.taken.now in
    let can = subst (λ (e : ExecView _). CanCommit (moment_of g.R.Recorder.kept e) taken c.args.out) (sym c.self.view_is) (c.requires.going, c.requires.claimed, c.requires.fresh, c.requires.answer) in
    let may = step_now kept past c.self.inside.desk c.self.invariant taken c.args.out can c.journal-legal.ensures.legal c.fresh_answers_follow.ensures.steps c.holds-apart.ensures.none_clash c.requires.step in
    let records = subst (λ (e : Entry). Records kept e (Ok c.in_ok-number.number) (g.R.Recorder.kept c.add_made.new.recorder)) c.in_ok-entry.ensures c.in_ok-number.ensures.adds in
    subst (λ (e : ExecView _). Commits (moment_of g.R.Recorder.kept e) taken c.args.out c.in_ok-number.number (record { kept = g.R.Recorder.kept c.add_made.new.recorder; claimed = claims_on c.behind_step.new.self })) c.self.view_is
    (commits_now kept past c.self.inside.desk c.self.invariant taken c.args.out can (entry_is.Step taken.pid taken.was.pick c.args.out) (step_is taken c.args.out c.requires.step) may (g.R.Recorder.kept c.add_made.new.recorder) (claims_on c.behind_step.new.self) c.in_ok-number.number records
    (subst (λ l. Unclaims taken.pid.0 l (claims_on c.behind_step.new.self)) c.add_made.ensures.claimed c.behind_step.ensures.claimed))

pub returns-in_err-number-clause-refused : goal.returns-in_err-number-clause-refused
returns-in_err-number-clause-refused g c =
    let kept = g.R.Recorder.kept c.self.inside.recorder in
    let past = c.self.inside.state.past in
    let taken = c.args.taken.now in
    let can = subst (λ (e : ExecView _). CanCommit (moment_of g.R.Recorder.kept e) taken c.args.out) (sym c.self.view_is) (c.requires.going, c.requires.claimed, c.requires.fresh, c.requires.answer) in
    let may = step_now kept past c.self.inside.desk c.self.invariant taken c.args.out can c.journal-legal.ensures.legal c.fresh_answers_follow.ensures.steps c.holds-apart.ensures.none_clash c.requires.step in
    let adds = subst (λ (e : Entry). Adds kept e (Err c.in_err-number.field-0.0) (g.R.Recorder.kept c.add_made.new.recorder)) c.in_ok-entry.ensures c.in_err-number.ensures.adds in
    let told =
    subst (λ (e : ExecView _). RefusesCommit (moment_of g.R.Recorder.kept e) taken c.args.out c.in_err-number.field-0.0 (record { kept = g.R.Recorder.kept c.add_made.new.recorder; claimed = claims_on c.add_made.new.desk })) c.self.view_is
    (refuses_now kept past c.self.inside.desk c.self.invariant taken c.args.out can (entry_is.Step taken.pid taken.was.pick c.args.out) (step_is taken c.args.out c.requires.step) may (g.R.Recorder.kept c.add_made.new.recorder) (claims_on c.add_made.new.desk) c.in_err-number.field-0.0 adds c.add_made.ensures.claimed) in
    let p = err_from_is_err_and c.from_residual-in_err-number.result c.from_residual-in_err-number.ensures.1 in
    rw (p.1, p.2) told
