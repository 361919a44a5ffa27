use Rattle.std.proofs.Common.{Ok, Option, ◌≤◌, inl, refl, subst, sym}
use Rattle.hm_hall.specs.Recording.{Recording}
use Rattle.hm_hall.specs.declared.taken.Taken.{Taken}
use Rattle.hm_exec.specs.Claiming.{AnswersClaim}
use Rattle.hm_model.specs.Editions.{editions, sheets_in}
use Rattle.hm_model.specs.Evaluation.{CanRun}
use Rattle.hm_model.specs.Journal.{back}
use Rattle.hm_rows_exec.specs.Outs.{at_exec}
use Rattle.hm_rows_exec.proofs.Stays.{claim_stays}
use Rattle.hm_rows_exec.proofs.run.Run.claim.Goals as goal

pub invariant_of-self : goal.invariant_of-self
invariant_of-self c =
    claim_stays (at_exec c.self.inside.exec) (at_exec c.next_claim.new.exec) c.next_claim.result c.self.inside.outs.items c.next_claim.ensures c.self.invariant

pub keep-requires-clause-claimed : goal.keep-requires-clause-claimed
keep-requires-clause-claimed c =
    let old = at_exec c.self.inside.exec in
    let new = at_exec c.next_claim.new.exec in
    let claims = subst (λ (o : Option Taken). AnswersClaim old (Ok o) new) c.in-Ok-Some.field-0-is c.in-Ok-Some.ensures in
    (claims.4 c.in-Ok-Some.taken.pid.0).1 (inl refl)

pub keep-requires-clause-edition : goal.keep-requires-clause-edition
keep-requires-clause-edition c =
    let old = at_exec c.self.inside.exec in
    let new = at_exec c.next_claim.new.exec in
    let taken = c.in-Ok-Some.taken in
    let claims = subst (λ (o : Option Taken). AnswersClaim old (Ok o) new) c.in-Ok-Some.field-0-is c.in-Ok-Some.ensures in
    let handed = claims.2 in
    subst (λ (k : Recording). taken.was.edition ≤ editions (back k.entries)) (sym claims.3) handed.edition

pub keep-requires-clause-runs : goal.keep-requires-clause-runs
keep-requires-clause-runs c =
    let old = at_exec c.self.inside.exec in
    let new = at_exec c.next_claim.new.exec in
    let taken = c.in-Ok-Some.taken in
    let claims = subst (λ (o : Option Taken). AnswersClaim old (Ok o) new) c.in-Ok-Some.field-0-is c.in-Ok-Some.ensures in
    let handed = claims.2 in
    subst (λ (k : Recording). CanRun (sheets_in (back k.entries) taken.was.edition) taken.was) (sym claims.3) handed.runs
