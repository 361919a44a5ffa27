use Rattle.std.proofs.Common.{Err, refl, subst, sym}
use Rattle.std.specs.Result.{IfErr}
use Rattle.hm_model.specs.Base.{IsBegun}
use Rattle.hm_places.specs.Laws.{StandingsTell}
use Rattle.hm_model.specs.Journal.{Past}
use Rattle.hm_roster.specs.Roster.{claims_on}
use Rattle.hm_exec.specs.Fleet.{AnswersUp, CanUp}
use Rattle.hm_exec.specs.Moment.{IsGoing, Moment, past_of}
use Rattle.hm_exec.specs.View.{ExecView, moment_of}
use Rattle.hm_exec.specs.declared.answers.UpWhy.TheVariants as up_why
use Rattle.hm_exec.proofs.Coming.{at_fault, up_refused}
use Rattle.hm_exec.proofs.exec.Exec.change.Goals as goal

pub returns-in_err-refuse-clause-refused : goal.returns-in_err-refuse-clause-refused
returns-in_err-refuse-clause-refused g c =
    let was : Moment = record { kept = g.R.Recorder.kept c.self.inside.recorder; claimed = claims_on c.self.inside.desk } in
    let now : Moment = record { kept = g.R.Recorder.kept c.refuse.new.recorder; claimed = claims_on c.self.inside.desk } in
    let told = c.fleet_is_told.ensures in
    subst (λ (e : ExecView _). IfErr c.from_residual.result (λ fault. AnswersUp (moment_of g.R.Recorder.kept e) c.args.server (Err (up_why.Fault fault)) now)) c.self.view_is
    (at_fault (λ fault. AnswersUp was c.args.server (Err (up_why.Fault fault)) now) c.from_residual.result c.in_err-refuse.field-0.0 c.from_residual.ensures.1
    (up_refused was now c.args.server c.in_err-refuse.field-0.0 (subst (λ (e : ExecView _). IsGoing (moment_of g.R.Recorder.kept e)) (sym c.self.view_is) c.requires.going)
    (subst (λ (J : Past). IsBegun J) (sym c.self.invariant.same) told.begun) (subst (λ (J : Past). StandingsTell J) (sym c.self.invariant.same) told.tell)
    (subst (λ (e : ExecView _). CanUp (past_of (moment_of g.R.Recorder.kept e)) c.args.server) (sym c.self.view_is) c.requires.can) (c.will_refuse.ensures.0 c.if-will_refuse.true) c.in_err-refuse.ensures.adds refl))
