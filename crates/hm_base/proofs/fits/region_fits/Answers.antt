use Rattle.std.proofs.Common.{◌↔◌, IsTrue, ap, subst, ◌∙◌}
use Rattle.hm_model.specs.Catalog.{row_at}
use Rattle.hm_base.specs.Fits.{HomeFits}
use Rattle.hm_base.proofs.fits.region_fits.Goals as goal

pub returns-then-numbers_fit : goal.returns-then-numbers_fit
returns-then-numbers_fit c =
    let is = subst (λ there. IsTrue c.home_fits.result ↔ HomeFits there c.args.region.now c.args.status c.args.place.now) (ap row_at c.catalog.ensures ∙ c.rows_tell.ensures.rows c.args.records.now.past) c.home_fits.ensures in
    (λ so. (rw c.as_slice.ensures at c.numbers_fit.ensures.0 c.if-numbers_fit.true, is.0 so), λ both. is.1 both.1)
