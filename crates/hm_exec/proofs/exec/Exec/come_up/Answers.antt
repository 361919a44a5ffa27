use Rattle.std.proofs.Common.{◌≡◌, Err, false, sym, ap, subst, ◌∙◌}
use Rattle.std.specs.Option.{IfNone, IfSome}
use Rattle.hm_hall.specs.declared.fault.HallFault.TheVariants as fault_is
use Rattle.hm_model.specs.Base.{IsBegun}
use Rattle.hm_model.specs.Fleet.{has_older_live}
use Rattle.hm_model.specs.Journal.{Past}
use Rattle.hm_places.specs.Laws.{StandingsTell}
use Rattle.hm_exec.specs.Fleet.{AnswersUp, FaultsFirst, PutsDown}
use Rattle.hm_exec.specs.Moment.{Moment, past_of}
use Rattle.hm_exec.specs.View.{ExecView, moment_of}
use Rattle.hm_exec.specs.declared.answers.UpWhy.TheVariants as up_why
use Rattle.hm_exec.proofs.Coming.{at_fault, came, came_not, first_memory, up_first}
use Rattle.hm_exec.proofs.exec.Exec.come_up.Goals as goal

pub returns-in_err-number-clause-refused : goal.returns-in_err-number-clause-refused
returns-in_err-number-clause-refused g c =
    let old = moment_of g.R.Recorder.kept c.args.self.now in
    let here = sym c.self.invariant.same ∙ ap (λ (e : ExecView _). past_of (moment_of g.R.Recorder.kept e)) c.self.view_is in
    at_fault (λ f. AnswersUp old c.args.server (Err (up_why.Fault f)) (moment_of g.R.Recorder.kept c.number.new.self)) c.from_residual.result fault_is.Memory c.from_residual.ensures.1
    (subst (λ (m : Moment). AnswersUp old c.args.server (Err (up_why.Fault fault_is.Memory)) m) (sym c.number.ensures.same) (up_first old old c.args.server fault_is.Memory c.requires.can
    (first_memory old c.args.server c.requires.going (subst IsBegun here c.fleet_is_told.ensures.begun) (subst (λ (J : Past). StandingsTell J) here c.fleet_is_told.ensures.tell) c.requires.can)
    (λ out. c.requires.accepted)))

pub returns-in_err-bring_up-clause-refused : goal.returns-in_err-bring_up-clause-refused
returns-in_err-bring_up-clause-refused g c =
    let old = moment_of g.R.Recorder.kept c.args.self.now in
    let mid = moment_of g.R.Recorder.kept c.put_older_down.new.self in
    let new = moment_of g.R.Recorder.kept c.bring_up.new.self in
    at_fault (λ f. AnswersUp old c.args.server (Err (up_why.Fault f)) new) c.from_residual-in_err-bring_up.result c.in_err-bring_up.field-0.0 c.from_residual-in_err-bring_up.ensures.1
    (came_not old mid c.args.server c.in_ok-down.down (subst (λ (m : Moment). IfNone c.in_ok-down.down ((has_older_live (past_of m) c.args.server ≡ false) × (mid ≡ m))) c.number.ensures.same c.in_ok-down.ensures.none)
    (subst (λ (m : Moment). IfSome c.in_ok-down.down (λ older. PutsDown m c.args.server older.0 older.1 mid)) c.number.ensures.same c.in_ok-down.ensures.down) c.requires.can c.requires.accepted new c.in_err-bring_up.field-0.0
    c.in_err-bring_up.ensures.refused)

pub returns-clause-up : goal.returns-clause-up
returns-clause-up g c =
    let old = moment_of g.R.Recorder.kept c.args.self.now in
    let mid = moment_of g.R.Recorder.kept c.put_older_down.new.self in
    let new = moment_of g.R.Recorder.kept c.bring_up.new.self in
    came old mid c.args.server c.in_ok-down.down (subst (λ (m : Moment). IfNone c.in_ok-down.down ((has_older_live (past_of m) c.args.server ≡ false) × (mid ≡ m))) c.number.ensures.same c.in_ok-down.ensures.none)
    (subst (λ (m : Moment). IfSome c.in_ok-down.down (λ older. PutsDown m c.args.server older.0 older.1 mid)) c.number.ensures.same c.in_ok-down.ensures.down) c.requires.can new c.in_ok-bring_up.ensures.up

pub returns-in_err-down-clause-refused : goal.returns-in_err-down-clause-refused
returns-in_err-down-clause-refused g c =
    let old = moment_of g.R.Recorder.kept c.args.self.now in
    let new = moment_of g.R.Recorder.kept c.put_older_down.new.self in
    let fault = c.in_err-down.field-0.0 in
    at_fault (λ f. AnswersUp old c.args.server (Err (up_why.Fault f)) new) c.from_residual-in_err-down.result fault c.from_residual-in_err-down.ensures.1
    (up_first old new c.args.server fault c.requires.can
    (subst (λ (m : Moment). FaultsFirst m c.args.server fault new) c.number.ensures.same c.in_err-down.ensures.refused) (λ out. c.requires.accepted))
