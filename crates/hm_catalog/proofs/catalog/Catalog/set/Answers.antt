use Rattle.std.proofs.Common.{◌≡◌, length, sym, ap, ◌∙◌, arith}
use Rattle.std.specs.Option.{option_copied}
use Rattle.hm_model.specs.Catalog.{row_at}
use Rattle.hm_catalog.specs.Kept.{present}
use Rattle.hm_catalog.specs.Rows.{CatalogView}
use Rattle.hm_catalog.proofs.Order.{count_fits, counted, set_by}
use Rattle.hm_catalog.proofs.catalog.Catalog.set.Goals as goal

pub recounted-self-inside-requires-clause-fits : goal.recounted-self-inside-requires-clause-fits
recounted-self-inside-requires-clause-fits c =
    let f = c.self.inside in
    let set_is = set_by _ c.in_order.ensures.same f.pairs.pairs c.set.new.self.pairs c.args.key c.args.after c.in_order.ensures.order c.set.ensures.order in
    let got_is : option_copied c.get.result ≡ row_at (present f.pairs.pairs) c.args.key = c.get.ensures ∙ ap (λ (v : CatalogView). row_at v.rows c.args.key) (sym c.self.view_is) in
    count_fits f.pairs.pairs c.set.new.self.pairs c.args.key c.args.after c.get.result f.count c.is_some-had.result c.is_some-has.result c.in_order.ensures.order set_is got_is c.is_some-had.ensures c.is_some-has.ensures c.self.invariant c.in_order-2.ensures.fits

pub invariant_of-self : goal.invariant_of-self
invariant_of-self c =
    let f = c.self.inside in
    let set_is = set_by _ c.in_order.ensures.same f.pairs.pairs c.set.new.self.pairs c.args.key c.args.after c.in_order.ensures.order c.set.ensures.order in
    let got_is : option_copied c.get.result ≡ row_at (present f.pairs.pairs) c.args.key = c.get.ensures ∙ ap (λ (v : CatalogView). row_at v.rows c.args.key) (sym c.self.view_is) in
    let sum = counted f.pairs.pairs c.set.new.self.pairs c.args.key c.args.after c.get.result f.count c.is_some-had.result c.is_some-has.result c.in_order.ensures.order set_is got_is c.is_some-had.ensures c.is_some-has.ensures c.self.invariant in
    let same : length (present c.set.new.self.pairs) ≡ c.recounted-self-inside.result = omega (arith, sum, c.recounted-self-inside.ensures) in
    same

pub returns-clause-rows : goal.returns-clause-rows
returns-clause-rows c =
    rw (← c.self.view_is) (set_by _ c.in_order.ensures.same c.self.inside.pairs.pairs c.set.new.self.pairs c.args.key c.args.after c.in_order.ensures.order c.set.ensures.order)
