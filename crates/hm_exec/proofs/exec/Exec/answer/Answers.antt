use Rattle.std.proofs.Common.{◌≡◌, Option, subst, sym}
use Rattle.std.specs.Prelude.{MatchOption}
use Rattle.hm_data.specs.declared.step.StepIn.{StepIn}
use Rattle.hm_model.specs.Journal.{Past}
use Rattle.hm_model.specs.Locks.{IsIn}
use Rattle.hm_roster.specs.Roster.{Follows, claims_on}
use Rattle.hm_exec.specs.Claiming.{GivesUp, IsFresh, IsNow}
use Rattle.hm_exec.specs.View.{ExecView, moment_of}
use Rattle.hm_exec.proofs.Claimed.{claims_less}
use Rattle.hm_exec.proofs.Looked.{gives_up}
use Rattle.hm_exec.proofs.exec.Exec.answer.Goals as goal

pub look-requires : goal.look-requires
look-requires g c = (c.self.invariant.follows.tied.claims c.args.taken.now.pid.0 (subst (λ (e : ExecView _). IsIn c.args.taken.now.pid.0 e.claimed) (sym c.self.view_is) c.requires.claimed)).0.0

pub invariant_of-self : goal.invariant_of-self
invariant_of-self g c =
    claims_less _ _ c.self.inside.desk c.put_back.new.self c.self.invariant (subst (λ (J : Past). Follows J c.put_back.new.self) c.records.ensures c.put_back.ensures.follows) c.args.taken.now.pid.0 c.put_back.ensures.claimed

pub returns-in-Some-2-clause-stale : goal.returns-in-Some-2-clause-stale
returns-in-Some-2-clause-stale g c now is =
    let kept = g.R.Recorder.kept c.self.inside.recorder in
    let taken = c.args.taken.now in
    let J : Past = c.self.inside.state.past in
    let same : c.in-Some-2.now ≡ now = cc in
    let told = subst (λ (o : Option StepIn). MatchOption o (IsFresh J taken) (λ n. (IsFresh J taken → ⊥) × IsNow J taken n)) c.in-Some-2.is c.in_ok-now.ensures in
    let given = gives_up kept c.self.inside.state.past (claims_on c.self.inside.desk) (claims_on c.put_back.new.self) taken c.in-Some-2.now (sym c.in_default.ensures.halted) c.self.invariant.same told c.put_back.ensures.claimed in
    subst (λ (n : StepIn). GivesUp (moment_of g.R.Recorder.kept c.args.self.now) taken n (record { kept = kept; claimed = claims_on c.put_back.new.self })) same
    (subst (λ (e : ExecView _). GivesUp (moment_of g.R.Recorder.kept e) taken c.in-Some-2.now (record { kept = kept; claimed = claims_on c.put_back.new.self })) c.self.view_is given)
