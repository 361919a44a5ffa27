use Rattle.std.proofs.Common.{false, subst, sym, ap, ◌∙◌}
use Rattle.hm_data.specs.declared.entry.Entry.TheVariants as entry_is
use Rattle.hm_model.specs.Journal.{Past}
use Rattle.hm_model.specs.Rules.{Allowed}
use Rattle.hm_roster.specs.Roster.{Follows, claims_on}
use Rattle.hm_exec.specs.Moment.{past_of}
use Rattle.hm_exec.specs.Submitting.{IsWelcome, Submits}
use Rattle.hm_exec.specs.View.{ExecView, moment_of}
use Rattle.hm_exec.proofs.Rooted.{goes_on, rooted, stays}
use Rattle.hm_exec.proofs.exec.Exec.make_root.Goals as goal

pub add_made-requires-clause-allowed : goal.add_made-requires-clause-allowed
add_made-requires-clause-allowed g c =
    subst (λ (J : Past). Allowed J (entry_is.Submit c.args.nonce c.args.request)) c.self.invariant.same
    (subst (λ (e : ExecView _). Allowed (past_of (moment_of g.R.Recorder.kept e)) (entry_is.Submit c.args.nonce c.args.request)) (sym c.self.view_is) c.requires.allowed)

pub invariant_of-self : goal.invariant_of-self
invariant_of-self g c =
    stays (g.R.Recorder.kept c.self.inside.recorder) (g.R.Recorder.kept c.add_made.new.recorder) c.self.inside.state.past c.add_made.new.state.past c.self.inside.desk c.add_made.new.desk c.self.invariant
    c.add_made.ensures.past c.in_err-add_made.ensures.follows c.add_made.ensures.claimed (entry_is.Submit c.args.nonce c.args.request) c.in_err-add_made.field-0.0 c.in_err-add_made.ensures.adds

pub invariant_of-self-2 : goal.invariant_of-self-2
invariant_of-self-2 g c =
    let allowed =
    subst (λ (J : Past). Allowed J (entry_is.Submit c.args.nonce c.args.request)) c.self.invariant.same
    (subst (λ (e : ExecView _). Allowed (past_of (moment_of g.R.Recorder.kept e)) (entry_is.Submit c.args.nonce c.args.request)) (sym c.self.view_is) c.requires.allowed) in
    goes_on (g.R.Recorder.kept c.self.inside.recorder) (g.R.Recorder.kept c.add_made.new.recorder) c.self.inside.state.past c.add_made.new.state.past c.self.inside.desk c.behind_submit.new.self c.self.invariant
    c.add_made.ensures.past (subst (λ (J : Past). Follows J c.behind_submit.new.self) c.records.ensures c.behind_submit.ensures.follows)
    (ap (λ v. v.items) c.behind_submit.ensures.same.claimed ∙ c.add_made.ensures.claimed) (entry_is.Submit c.args.nonce c.args.request) c.in_ok-add_made.field-0 c.journal-legal.ensures.legal allowed c.in_ok-add_made.ensures.adds
    (λ q mine. tt)

pub returns-clause-made : goal.returns-clause-made
returns-clause-made g c =
    let old = g.R.Recorder.kept c.self.inside.recorder in
    let new = g.R.Recorder.kept c.add_made.new.recorder in
    let mine = claims_on c.self.inside.desk in
    let after = claims_on c.behind_submit.new.self in
    subst
    (λ (e : ExecView _). Submits (moment_of g.R.Recorder.kept e) c.args.nonce c.args.request (record { pid = record { 0 = c.last_pid.result }; repeated = false }) (record { kept = new; claimed = after }))
    c.self.view_is
    (rooted old new c.self.inside.state.past c.add_made.new.state.past mine after c.args.nonce c.args.request c.last_pid.result c.in_ok-add_made.field-0 c.self.invariant.same c.add_made.ensures.past
    (subst (λ (e : ExecView _). IsWelcome (moment_of g.R.Recorder.kept e) c.args.nonce c.args.request) (sym c.self.view_is) c.requires.welcome)
    (subst (λ (e : ExecView _). Allowed (past_of (moment_of g.R.Recorder.kept e)) (entry_is.Submit c.args.nonce c.args.request)) (sym c.self.view_is) c.requires.allowed)
    c.in_ok-add_made.ensures.adds c.last_pid.ensures.last
    (ap (λ v. v.items) c.behind_submit.ensures.same.claimed ∙ c.add_made.ensures.claimed))
