use Rattle.std.proofs.Common.{subst, sym, ap}
use Rattle.hm_data.specs.declared.entry.Entry.TheVariants as entry_is
use Rattle.hm_model.specs.Journal.{Past}
use Rattle.hm_model.specs.Rules.{Allowed}
use Rattle.hm_roster.specs.Roster.{Follows}
use Rattle.hm_exec.specs.Moment.{past_of}
use Rattle.hm_exec.specs.View.{ExecView, moment_of}
use Rattle.hm_exec.proofs.Rooted.{goes_on, stays_so}
use Rattle.hm_exec.proofs.exec.Exec.bring_up.Goals as goal

pub add-requires-clause-allowed : goal.add-requires-clause-allowed
add-requires-clause-allowed g c =
    subst (λ (J : Past). Allowed J (entry_is.Up c.args.server)) c.self.invariant.same
    (subst (λ (e : ExecView _). Allowed (past_of (moment_of g.R.Recorder.kept e)) (entry_is.Up c.args.server)) (sym c.self.view_is) c.requires.allowed)

pub add-requires-clause-fits : goal.add-requires-clause-fits
add-requires-clause-fits g c = c.entries_fit_frames.ensures.up c.args.server c.server_fits.ensures

pub invariant_of-self : goal.invariant_of-self
invariant_of-self g c = stays_so _ _ _ _ c.self.inside.desk c.self.invariant c.add.ensures.past (entry_is.Up c.args.server) c.in_err-add.field-0.0 c.in_err-add.ensures.adds

pub invariant_of-self-2 : goal.invariant_of-self-2
invariant_of-self-2 g c =
    let allowed =
    subst (λ (J : Past). Allowed J (entry_is.Up c.args.server)) c.self.invariant.same
    (subst (λ (e : ExecView _). Allowed (past_of (moment_of g.R.Recorder.kept e)) (entry_is.Up c.args.server)) (sym c.self.view_is) c.requires.allowed) in
    goes_on (g.R.Recorder.kept c.self.inside.recorder) (g.R.Recorder.kept c.add.new.recorder) c.self.inside.state.past c.add.new.state.past c.self.inside.desk c.behind_up.new.self c.self.invariant
    c.add.ensures.past (subst (λ (J : Past). Follows J c.behind_up.new.self) c.records.ensures c.behind_up.ensures.follows)
    (ap (λ v. v.items) c.behind_up.ensures.same.claimed) (entry_is.Up c.args.server) c.in_ok-add.field-0 c.journal-legal.ensures.legal allowed c.in_ok-add.ensures.adds
    (λ q mine. tt)
