use Rattle.std.proofs.Common.{◌≡◌, Option, false, sym, ap, subst, ◌∙◌}
use Rattle.std.specs.Option.{IfNone, IfSome}
use Rattle.hm_names.specs.Server.{Server}
use Rattle.hm_hall.specs.declared.fault.HallFault.TheVariants as fault_is
use Rattle.hm_model.specs.Base.{IsBegun}
use Rattle.hm_model.specs.Fleet.{has_older_live}
use Rattle.hm_model.specs.Journal.{Past}
use Rattle.hm_model.specs.Rules.{IsLegal}
use Rattle.hm_places.specs.Laws.{StandingsTell}
use Rattle.hm_exec.specs.Fleet.{FaultsFirst, IsOlder}
use Rattle.hm_exec.specs.Moment.{past_of}
use Rattle.hm_exec.specs.View.{ExecView, moment_of}
use Rattle.hm_exec.proofs.Coming.{at_fault, first_memory, up_after}
use Rattle.hm_exec.proofs.Living.{newest}
use Rattle.hm_exec.proofs.exec.Exec.put_older_down.Goals as goal

pub returns-in_err-older-clause-refused : goal.returns-in_err-older-clause-refused
returns-in_err-older-clause-refused g c =
    let old = moment_of g.R.Recorder.kept c.args.self.now in
    let here = sym c.self.invariant.same ∙ ap (λ (e : ExecView _). past_of (moment_of g.R.Recorder.kept e)) c.self.view_is in
    at_fault (λ f. FaultsFirst old c.args.server.now f old) c.from_residual.result fault_is.Memory c.from_residual.ensures.1
    (first_memory old c.args.server.now c.requires.going (subst IsBegun here c.fleet_is_told.ensures.begun) (subst (λ (J : Past). StandingsTell J) here c.fleet_is_told.ensures.tell) c.requires.can)

pub returns-in_default-clause-allowed : goal.returns-in_default-clause-allowed
returns-in_default-clause-allowed g c =
    let here = sym c.self.invariant.same ∙ ap (λ (e : ExecView _). past_of (moment_of g.R.Recorder.kept e)) c.self.view_is in
    let none = subst (λ (o : Option Server). IfNone o (has_older_live c.self.inside.state.past c.args.server.now ≡ false)) c.in_default.is c.in_ok-older.ensures.none in (
      subst IsBegun here c.fleet_is_told.ensures.begun,
      (
        newest (past_of (moment_of g.R.Recorder.kept c.args.self.now)) c.args.server.now (subst (λ (J : Past). StandingsTell J) here c.fleet_is_told.ensures.tell) c.requires.can,
        (subst (λ (J : Past). has_older_live J c.args.server.now ≡ false) here none, tt),
      ),
    )

pub returns-clause-allowed : goal.returns-clause-allowed
returns-clause-allowed g c =
    let here = sym c.self.invariant.same ∙ ap (λ (e : ExecView _). past_of (moment_of g.R.Recorder.kept e)) c.self.view_is in
    let some = subst (λ (o : Option Server). IfSome o (IsOlder c.self.inside.state.past c.args.server.now)) c.in-Some.is c.in_ok-older.ensures.some in
    up_after (moment_of g.R.Recorder.kept c.args.self.now) (moment_of g.R.Recorder.kept c.put_down.new.self) c.args.server.now c.in-Some.older (subst (λ (J : Past). IsLegal J) here c.fleet_is_told.ensures.legal)
    (subst (λ (J : Past). StandingsTell J) here c.fleet_is_told.ensures.tell) c.requires.can (subst (λ (J : Past). IsOlder J c.args.server.now c.in-Some.older) here some) c.in_ok-pid.ensures.down.0
