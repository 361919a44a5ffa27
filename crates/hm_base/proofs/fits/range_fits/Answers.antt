use Rattle.hm_base.proofs.fits.range_fits.Goals as goal

pub returns : goal.returns
returns c =
    let tells = c.ranges_tell.ensures.fit c.args.records.now.past c.args.region.now c.args.ranges.now.ranges c.requires c.args.range.now c.args.status in
    (λ so. tells.1 (c.fits_live.ensures.0 so), λ fits. c.fits_live.ensures.1 (tells.0 fits))
