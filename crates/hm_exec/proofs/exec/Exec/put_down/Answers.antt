use Rattle.std.proofs.Common.{◌≡◌, true, subst, sym, ap, ◌∙◌}
use Rattle.hm_names.specs.Server.{Server}
use Rattle.hm_data.specs.declared.entry.Entry.TheVariants as entry_is
use Rattle.hm_model.specs.Fleet.{is_live}
use Rattle.hm_model.specs.Journal.{Past}
use Rattle.hm_model.specs.Rules.{Allowed}
use Rattle.hm_roster.specs.Roster.{Follows}
use Rattle.hm_exec.specs.Moment.{past_of}
use Rattle.hm_exec.specs.View.{ExecView, moment_of}
use Rattle.hm_exec.proofs.Rooted.{goes_on, stays}
use Rattle.hm_exec.proofs.exec.Exec.put_down.Goals as goal

pub add_made-requires-clause-allowed : goal.add_made-requires-clause-allowed
add_made-requires-clause-allowed g c =
    let live =
    subst (λ (J : Past). is_live J c.args.server.now ≡ true) c.self.invariant.same
    (subst (λ (e : ExecView _). is_live (past_of (moment_of g.R.Recorder.kept e)) c.args.server.now ≡ true) (sym c.self.view_is) c.requires.live) in
    (c.fleet_is_told.ensures.begun, (subst (λ (s : Server). is_live c.self.inside.state.past s ≡ true) (sym c.in_ok-copy.ensures) live, tt))

pub invariant_of-self : goal.invariant_of-self
invariant_of-self g c =
    stays (g.R.Recorder.kept c.self.inside.recorder) (g.R.Recorder.kept c.add_made.new.recorder) c.self.inside.state.past c.add_made.new.state.past c.self.inside.desk c.add_made.new.desk c.self.invariant
    c.add_made.ensures.past c.in_err-add_made.ensures.follows c.add_made.ensures.claimed (entry_is.Down c.in_ok-copy.field-0) c.in_err-add_made.field-0.0 c.in_err-add_made.ensures.adds

pub invariant_of-self-2 : goal.invariant_of-self-2
invariant_of-self-2 g c =
    let live =
    subst (λ (J : Past). is_live J c.args.server.now ≡ true) c.self.invariant.same
    (subst (λ (e : ExecView _). is_live (past_of (moment_of g.R.Recorder.kept e)) c.args.server.now ≡ true) (sym c.self.view_is) c.requires.live) in
    let allowed : Allowed c.self.inside.state.past (entry_is.Down c.in_ok-copy.field-0) =
    (c.fleet_is_told.ensures.begun, (subst (λ (s : Server). is_live c.self.inside.state.past s ≡ true) (sym c.in_ok-copy.ensures) live, tt)) in
    goes_on (g.R.Recorder.kept c.self.inside.recorder) (g.R.Recorder.kept c.add_made.new.recorder) c.self.inside.state.past c.add_made.new.state.past c.self.inside.desk c.behind_down.new.self c.self.invariant
    c.add_made.ensures.past (subst (λ (J : Past). Follows J c.behind_down.new.self) c.records.ensures c.behind_down.ensures.follows)
    (ap (λ v. v.items) c.behind_down.ensures.same.claimed ∙ c.add_made.ensures.claimed) (entry_is.Down c.in_ok-copy.field-0) c.in_ok-add_made.field-0 c.fleet_is_told.ensures.legal allowed c.in_ok-add_made.ensures.adds
    (λ q mine. tt)
