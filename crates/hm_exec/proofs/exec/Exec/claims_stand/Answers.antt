use Rattle.std.proofs.Common.{ℕ, subst, sym}
use Rattle.hm_model.specs.Holding.{NoneClash}
use Rattle.hm_model.specs.Journal.{Past}
use Rattle.hm_model.specs.Locks.{IsIn}
use Rattle.hm_roster.specs.Roster.{claims_on, number_on, roster_of}
use Rattle.hm_tied.specs.Tied.{CanGo}
use Rattle.hm_tied.proofs.Uses.{none_clash_ties}
use Rattle.hm_exec.specs.Moment.{past_of}
use Rattle.hm_exec.specs.View.{ExecView, moment_of}
use Rattle.hm_exec.proofs.exec.Exec.claims_stand.Goals as goal

pub returns-clause-apart : goal.returns-clause-apart
returns-clause-apart g c =
    let desk = c.self.inside.desk in
    subst (λ (e : ExecView _). NoneClash (past_of (moment_of g.R.Recorder.kept e)) e.claimed) c.self.view_is
    (subst (λ (J : Past). NoneClash J (claims_on desk)) (sym c.self.invariant.same)
    (none_clash_ties c.self.inside.state.past (number_on desk) (roster_of desk) c.self.invariant.follows.tied c.holds-apart.ensures.none_clash))

pub returns-clause-able : goal.returns-clause-able
returns-clause-able g c =
    let desk = c.self.inside.desk in
    subst (λ (e : ExecView _). (p : ℕ) → IsIn p e.claimed → CanGo (past_of (moment_of g.R.Recorder.kept e)) p) c.self.view_is
    (subst (λ (J : Past). (p : ℕ) → IsIn p (claims_on desk) → CanGo J p) (sym c.self.invariant.same) c.self.invariant.able)
