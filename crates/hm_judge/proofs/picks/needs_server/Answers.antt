use Rattle.std.proofs.Common.{◌↔◌, ◌&&◌, IsTrue, ap, sym, ◌∙◌, subst}
use Rattle.hm_model.specs.Rest.{MayUndo}
use Rattle.hm_judge.specs.Picks.{wants}
use Rattle.hm_judge.proofs.Picking.{needs_no_row, needs_none, needs_row, undoes_not, undoes_so}
use Rattle.hm_judge.proofs.picks.needs_server.Goals as goal

pub returns-then-undoes : goal.returns-then-undoes
returns-then-undoes c =
    let tells = subst (λ J. IsTrue c.undoes.result ↔ MayUndo J c.args.pid.0) c.procedures.ensures.past c.undoes.ensures in
    λ x is shown. sym (needs_none c.args.records.now.past c.procedures.ensures.legal c.args.pid.0 x (undoes_so c.args.records.now.past c.args.pid.0 x is c.undoes.result c.if-undoes.true tells))

pub returns-then-places : goal.returns-then-places
returns-then-places c =
    let tells = subst (λ J. IsTrue c.undoes.result ↔ MayUndo J c.args.pid.0) c.procedures.ensures.past c.undoes.ensures in
    λ x is shown.
    c.wants_server.ensures
    ∙ ap (λ b. b && wants c.args.records.now.past c.args.found.now.args) (sym c.if-places.true)
    ∙ needs_row c.args.records.now.past c.procedures.ensures.legal c.args.pid.0 c.args.found.now x is shown (undoes_not c.args.records.now.past c.args.pid.0 x is c.undoes.result c.if-undoes.false tells) c.next_row.result c.next_row.ensures c.in-Some.row c.in-Some.is c.places.result c.places.ensures

pub returns-else-places : goal.returns-else-places
returns-else-places c =
    let tells = subst (λ J. IsTrue c.undoes.result ↔ MayUndo J c.args.pid.0) c.procedures.ensures.past c.undoes.ensures in
    λ x is shown.
    c.if-places.false
    ∙ ap (λ b. b && wants c.args.records.now.past c.args.found.now.args) (sym c.if-places.false)
    ∙ needs_row c.args.records.now.past c.procedures.ensures.legal c.args.pid.0 c.args.found.now x is shown (undoes_not c.args.records.now.past c.args.pid.0 x is c.undoes.result c.if-undoes.false tells) c.next_row.result c.next_row.ensures c.in-Some.row c.in-Some.is c.places.result c.places.ensures

pub returns-in-None : goal.returns-in-None
returns-in-None c =
    let tells = subst (λ J. IsTrue c.undoes.result ↔ MayUndo J c.args.pid.0) c.procedures.ensures.past c.undoes.ensures in
    λ x is shown.
    needs_no_row c.args.records.now.past c.procedures.ensures.legal c.args.pid.0 c.args.found.now x is shown (undoes_not c.args.records.now.past c.args.pid.0 x is c.undoes.result c.if-undoes.false tells) c.next_row.result c.next_row.ensures c.in-None.is
