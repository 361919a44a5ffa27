use Rattle.std.proofs.Common.{◌≡◌, ◌<◌, ◌+◌, ◌-◌, ap, ◌∙◌, arith, slice_get, subst}
use Rattle.hm_model.specs.Journal.{Past}
use Rattle.hm_model.specs.Procedures.{offset}
use Rattle.hm_model.specs.Rules.{IsLegal}
use Rattle.hm_procedures.specs.Kept.{kept_of}
use Rattle.hm_procedures.specs.Procedures.{ProceduresView}
use Rattle.hm_procedures.proofs.Readers.{kept_none}
use Rattle.hm_procedures.proofs.procedures.Procedures.kept.Goals as goal

pub returns-then-pid-self-clause-kept : goal.returns-then-pid-self-clause-kept
returns-then-pid-self-clause-kept c =
    let legal = subst (λ (v : ProceduresView). IsLegal v.past) c.self.view_is c.self.invariant.0.0.legal in
    let off = c.self.invariant.0.2.begin ∙ ap (λ (v : ProceduresView). offset v.past) c.self.view_is in
    let few = c.if-pid-self.true in
    kept_none c.args.self.now.past legal c.args.pid.0 (omega (arith, few, off))

pub returns-clause-kept : goal.returns-clause-kept
returns-clause-kept c =
    let some = c.if-pid-self.false in
    let on = c.self.invariant.0.2 in
    let J : Past = c.self.inside.past.entries in
    let low : offset J < c.args.pid.0 = subst (λ n. n < c.args.pid.0) on.begin some in
    let up : offset J + (c.args.pid.0 - offset J - 1) + 1 ≡ c.args.pid.0 = omega (arith, low) in
    c.kept_at.ensures
    ∙ ap (λ l. slice_get l (c.args.pid.0 - c.self.inside.book.offset - 1)) c.deref.ensures.value
    ∙ ap (λ n. slice_get c.self.inside.book.kept.items (c.args.pid.0 - n - 1)) on.begin
    ∙ c.self.invariant.0.0.kept_are (c.args.pid.0 - offset J - 1)
    ∙ ap (kept_of J) up
    ∙ ap (λ (v : ProceduresView). kept_of v.past c.args.pid.0) c.self.view_is
