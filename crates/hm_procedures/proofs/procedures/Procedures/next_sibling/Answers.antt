use Rattle.std.proofs.Common.{◌≡◌, true, Some, ap, sym, ◌∙◌, subst, arith}
use Rattle.hm_model.specs.Journal.{Past}
use Rattle.hm_model.specs.Phase.{child_in}
use Rattle.hm_model.specs.Procedures.{offset}
use Rattle.hm_model.specs.Tree.{node_of}
use Rattle.hm_model.proofs.Grown.{grown_all, made_up_to}
use Rattle.hm_procedures.specs.Kept.{kept_at}
use Rattle.hm_procedures.specs.Procedures.{IsNextChild, ProceduresView}
use Rattle.hm_procedures.proofs.Elders.{elders_long, next_of}
use Rattle.hm_procedures.proofs.Enters.{behind_low}
use Rattle.hm_procedures.proofs.Readers.{there_of}
use Rattle.hm_procedures.proofs.procedures.Procedures.next_sibling.Goals as goal

pub next-requires-clause-low : goal.next-requires-clause-low
next-requires-clause-low c =
    let here = there_of c.args.self.now.past c.args.pid.0 c.in_ok-kept.field-0.now c.in_ok-kept.ensures.kept in
    let low = behind_low c.args.self.now.past c.kept.ensures.legal c.args.pid.0 here.0 here.1 in
    let off = c.self.invariant.0.2.siblings ∙ ap (λ (v : ProceduresView). offset v.past) c.self.view_is in
    omega (arith, low, off)

pub next-requires-clause-high : goal.next-requires-clause-high
next-requires-clause-high c =
    let J : Past = c.self.inside.past.entries in
    let same = ap (λ (v : ProceduresView). v.past) c.self.view_is in
    let here = there_of c.args.self.now.past c.args.pid.0 c.in_ok-kept.field-0.now c.in_ok-kept.ensures.kept in
    let is = subst (λ (J : Past). node_of J c.args.pid.0 ≡ Some here.0) (sym same) here.1 in
    let most = (made_up_to J (grown_all J c.self.invariant.0.0.legal) c.args.pid.0 here.0 is).1 in
    let long = elders_long J c.self.invariant.0.0.legal c.self.inside.book.siblings.roots c.self.invariant.0.1 (kept_at J) c.self.inside.book.kept.items c.self.invariant.0.0.kept_are in
    omega (arith, most, long, c.self.invariant.0.0.count, c.self.invariant.0.2.siblings)

pub returns : goal.returns
returns c =
    let same = ap (λ (v : ProceduresView). v.past) c.self.view_is in
    λ parent child.
    subst (λ (J : Past). IsNextChild J parent c.args.pid.0 c.next.result) same
    (next_of c.self.inside.past.entries c.self.invariant.0.0.legal c.self.inside.book.siblings.roots c.self.invariant.0.1 parent c.args.pid.0 (subst (λ (J : Past). child_in parent (node_of J c.args.pid.0) ≡ true) (sym same) child) c.next.result (rw c.self.invariant.0.2.siblings at c.next.ensures))
