use Rattle.std.proofs.Common.{All, take}
use Rattle.hm_names.specs.Regions.{IsRegion}
use Rattle.hm_frames.proofs.requests.regions_fit.Given as goal

abbrev pub invariant-loop-region : goal.invariant-loop-region
invariant-loop-region l = All IsRegion (take l.region-index l.regions)
