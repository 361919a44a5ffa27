use Rattle.hm_base.proofs.fits.suits.Goals as goal

pub returns-then-region_fits : goal.returns-then-region_fits
returns-then-region_fits c =
    rw c.in-Region.is (λ so. (c.region_fits.ensures.0 c.if-region_fits.true, c.range_fits.ensures.0 so), λ both. c.range_fits.ensures.1 both.1)
