use Rattle.std.proofs.Common.{All, subst, sym}
use Rattle.std.proofs.lemmas.List.{take_all, take_more}
use Rattle.std.proofs.lemmas.List.Elements.{All-push}
use Rattle.hm_names.specs.Regions.{IsRegion}
use Rattle.hm_frames.proofs.requests.regions_fit.Goals as goal

pub loop-region-preserved : goal.loop-region-preserved
loop-region-preserved c =
    subst (All IsRegion) (sym (take_more c.args.regions.now c.loop-region.region-index c.region-item.result c.loop-region-test.true))
    (All-push IsRegion _ _ c.loop-region.invariant (subst IsRegion c.region-item.is c.region_fits.ensures))

pub returns : goal.returns
returns c = subst (All IsRegion) (take_all c.loop-region.region-index c.args.regions.now c.loop-region-test.false) c.loop-region.invariant
