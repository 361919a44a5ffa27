use Rattle.std.proofs.Common.{◌≡◌, length, ap, sym, ◌∙◌, arith}
use Rattle.hm_model.specs.Inputs.{ends_of, made_at_step}
use Rattle.hm_model.specs.Journal.{Past}
use Rattle.hm_model.specs.Procedures.{offset}
use Rattle.hm_procedures.specs.Changes.{ends_in}
use Rattle.hm_procedures.specs.Kept.{made_in_step}
use Rattle.hm_procedures.specs.Procedures.{ProceduresView}
use Rattle.hm_procedures.proofs.Needs.{offset_most}
use Rattle.hm_procedures.proofs.Readers.{ends_said}
use Rattle.hm_procedures.proofs.Runs.{ends_are, run_all}
use Rattle.hm_procedures.proofs.procedures.Procedures.ends.Goals as goal

pub ends_from-requires-clause-high : goal.ends_from-requires-clause-high
ends_from-requires-clause-high c =
    let run = run_all c.self.inside.past.entries c.self.invariant.0.0.legal c.args.pid.0 in
    let at = c.last_made-from.ensures.0 ∙ ap (λ (v : ProceduresView). made_at_step v.past c.args.pid.0) (sym c.self.view_is) in
    let in_it = c.last_made-from.ensures.1 ∙ ap (λ (v : ProceduresView). made_in_step v.past c.args.pid.0) (sym c.self.view_is) in
    let begin = c.self.invariant.0.2.begin in
    let most = run.most in
    let long = ap length c.deref.ensures.value in
    omega (arith, most, at, in_it, long, begin, c.self.invariant.0.0.count)

pub ends_from-requires-clause-low : goal.ends_from-requires-clause-low
ends_from-requires-clause-low c =
    let run = run_all c.self.inside.past.entries c.self.invariant.0.0.legal c.args.pid.0 in
    let at = c.last_made-from.ensures.0 ∙ ap (λ (v : ProceduresView). made_at_step v.past c.args.pid.0) (sym c.self.view_is) in
    let in_it = c.last_made-from.ensures.1 ∙ ap (λ (v : ProceduresView). made_in_step v.past c.args.pid.0) (sym c.self.view_is) in
    let begin = c.self.invariant.0.2.begin in
    λ some. (let least = run.least (omega (arith, some, in_it)) in omega (arith, least, at, begin))

pub ends_from-requires-clause-small : goal.ends_from-requires-clause-small
ends_from-requires-clause-small c =
    let run = run_all c.self.inside.past.entries c.self.invariant.0.0.legal c.args.pid.0 in
    let at = c.last_made-from.ensures.0 ∙ ap (λ (v : ProceduresView). made_at_step v.past c.args.pid.0) (sym c.self.view_is) in
    let in_it = c.last_made-from.ensures.1 ∙ ap (λ (v : ProceduresView). made_in_step v.past c.args.pid.0) (sym c.self.view_is) in
    let begin = c.self.invariant.0.2.begin in
    let most = run.most in
    let few = offset_most c.self.inside.past.entries c.self.invariant.0.0.legal in
    omega (arith, most, at, in_it, few, c.self.invariant.0.0.count, c.self.inside.book.kept.ok.0, c.self.inside.book.kept.small)

pub returns : goal.returns
returns c =
    let J : Past = c.self.inside.past.entries in
    let at = c.last_made-from.ensures.0 ∙ ap (λ (v : ProceduresView). made_at_step v.past c.args.pid.0) (sym c.self.view_is) in
    let in_it = c.last_made-from.ensures.1 ∙ ap (λ (v : ProceduresView). made_in_step v.past c.args.pid.0) (sym c.self.view_is) in
    let are : ends_in c.self.inside.book.offset c.deref.result.now c.last_made-from.result.0 c.last_made-from.result.1 ≡ ends_of c.args.self.now.past c.args.pid.0 =
    ap (λ l. ends_in c.self.inside.book.offset l c.last_made-from.result.0 c.last_made-from.result.1) c.deref.ensures.value
    ∙ ap (λ n. ends_in n c.self.inside.book.kept.items c.last_made-from.result.0 c.last_made-from.result.1) c.self.invariant.0.2.begin
    ∙ ap (λ n. ends_in (offset J) c.self.inside.book.kept.items n c.last_made-from.result.1) at
    ∙ ap (ends_in (offset J) c.self.inside.book.kept.items (made_at_step J c.args.pid.0)) in_it
    ∙ ends_are J c.self.invariant.0.0.legal c.args.pid.0 c.self.inside.book.kept.items c.self.invariant.0.0.kept_are
    ∙ ap (λ (v : ProceduresView). ends_of v.past c.args.pid.0) c.self.view_is in
    ends_said c.ends_from.result are c.ends_from.ensures
