use Rattle.std.proofs.Common.{sym, ap, ◌∙◌}
use Rattle.std.specs.Ordering.{is_ne}
use Rattle.hm_catalog.specs.Kept.{first_tied}
use Rattle.hm_catalog.proofs.Order.{first_by, other_first, own_first, own_key}
use Rattle.hm_catalog.proofs.catalog.Catalog.find.Goals as goal

pub returns-in_err-first-clause-row : goal.returns-in_err-first-clause-row
returns-in_err-first-clause-row g c =
    let key = g.S.Sought.stands_for c.args.key.now in
    rw (c.from_residual.ensures, ← c.self.view_is)
    (sym (ap (first_tied key) c.in_err-first.ensures.steps.0) ∙ first_by _ c.in_order.ensures.same c.self.inside.pairs.pairs c.iter_from.result key c.in_order.ensures.order c.iter_from.ensures)

pub returns-then-is_ne-clause-row : goal.returns-then-is_ne-clause-row
returns-then-is_ne-clause-row g c =
    rw (← c.self.view_is)
    (other_first _ c.in_order.ensures.same c.self.inside.pairs.pairs c.iter_from.result c.next.new.self c.in_ok-first.field-0.now (g.S.Sought.stands_for c.args.key.now) c.in_order.ensures.order c.iter_from.ensures c.in_ok-first.ensures.steps
    (sym (c.if-is_ne.ensures ∙ ap is_ne c.compared.ensures)))

pub returns-in_err-as_ref-clause-row : goal.returns-in_err-as_ref-clause-row
returns-in_err-as_ref-clause-row g c =
    rw (c.from_residual-in_err-as_ref.ensures, ← c.self.view_is)
    (c.in_err-as_ref.ensures.value
    ∙ own_first _ c.in_order.ensures.same c.self.inside.pairs.pairs c.iter_from.result c.next.new.self c.in_ok-first.field-0.now (g.S.Sought.stands_for c.args.key.now) c.in_order.ensures.order c.iter_from.ensures c.in_ok-first.ensures.steps
    (sym (c.if-is_ne.ensures ∙ ap is_ne c.compared.ensures)))

pub returns-clause-key : goal.returns-clause-key
returns-clause-key g c = own_key _ c.in_order.ensures.same c.in_ok-first.field-0.now.0 (g.S.Sought.stands_for c.args.key.now) (sym (c.if-is_ne.ensures ∙ ap is_ne c.compared.ensures))

pub returns-clause-row : goal.returns-clause-row
returns-clause-row g c =
    rw (← c.self.view_is)
    (c.in_ok-as_ref.ensures.value
    ∙ own_first _ c.in_order.ensures.same c.self.inside.pairs.pairs c.iter_from.result c.next.new.self c.in_ok-first.field-0.now (g.S.Sought.stands_for c.args.key.now) c.in_order.ensures.order c.iter_from.ensures c.in_ok-first.ensures.steps
    (sym (c.if-is_ne.ensures ∙ ap is_ne c.compared.ensures)))
