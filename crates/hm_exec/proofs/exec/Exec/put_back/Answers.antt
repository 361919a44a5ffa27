use Rattle.std.proofs.Common.{◌≡◌, refl, subst}
use Rattle.hm_model.specs.Journal.{Past}
use Rattle.hm_model.specs.Claims.{Unclaims}
use Rattle.hm_roster.specs.Roster.{Follows, claims_on}
use Rattle.hm_exec.specs.View.{ExecView}
use Rattle.hm_exec.proofs.Claimed.{claims_less}
use Rattle.hm_exec.proofs.exec.Exec.put_back.Goals as goal

pub invariant_of-self : goal.invariant_of-self
invariant_of-self g c =
    claims_less _ _ c.self.inside.desk c.put_back.new.self c.self.invariant (subst (λ (J : Past). Follows J c.put_back.new.self) c.records.ensures c.put_back.ensures.follows) c.args.taken.pid.0 c.put_back.ensures.claimed

pub returns-clause-back : goal.returns-clause-back
returns-clause-back g c =
    subst (λ (e : ExecView _). (g.R.Recorder.kept c.self.inside.recorder ≡ g.R.Recorder.kept e.recorder) × Unclaims c.args.taken.pid.0 e.claimed (claims_on c.put_back.new.self)) c.self.view_is
    (refl, c.put_back.ensures.claimed)
