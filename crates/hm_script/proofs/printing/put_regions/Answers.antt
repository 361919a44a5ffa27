use Rattle.std.proofs.Common.{◌<◌, length, arith}
use Rattle.hm_script.specs.Values.{region, of_region}
use Rattle.hm_script.proofs.PrintLemmas.{text_more, fit_next}
use Rattle.hm_script.proofs.printing.put_regions.Goals as goal

pub loop-region-preserved : goal.loop-region-preserved
loop-region-preserved c =
    let xs = c.args.regions.now in
    let i = c.loop-region.region-index in
    let within : i < length xs = omega arith in
    record {
      written = text_more of_region _ _ _ xs i c.region-item.result within c.region-item.is c.loop-region.invariant.written c.in_ok-put_region.ensures.written;
      read_back = fit_next region of_region xs i c.region-item.result within c.region-item.is c.loop-region.invariant.read_back c.in_ok-put_region.ensures.read_back;
    }
