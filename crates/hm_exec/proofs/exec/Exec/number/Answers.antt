use Rattle.std.proofs.Common.{ap, subst}
use Rattle.hm_model.specs.Journal.{Past}
use Rattle.hm_roster.specs.Roster.{Follows}
use Rattle.hm_exec.proofs.Claimed.{claims_same}
use Rattle.hm_exec.proofs.exec.Exec.number.Goals as goal

pub invariant_of-self : goal.invariant_of-self
invariant_of-self g c =
    claims_same _ _ c.self.inside.desk c.number_server.new.self c.self.invariant (subst (λ (J : Past). Follows J c.number_server.new.self) c.records.ensures c.number_server.ensures.follows)
    (ap (λ v. v.items) c.number_server.ensures.roomier.claimed)
