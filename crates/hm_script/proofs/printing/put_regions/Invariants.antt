use Rattle.std.proofs.Common.{◌≡◌, ◌++◌, map, take}
use Rattle.std.specs.List.{flat_map}
use Rattle.hm_script.specs.Printing.{FitRest}
use Rattle.hm_script.specs.Shapes.{many}
use Rattle.hm_script.specs.Spellings.{behind_space}
use Rattle.hm_script.specs.Values.{region, of_region}
use Rattle.hm_script.proofs.printing.put_regions.Given as goal

abbrev pub invariant-loop-region : goal.invariant-loop-region
invariant-loop-region l = record {
  written : l.out.items ≡ l.fn.out.items ++ flat_map behind_space (map of_region (take l.region-index l.regions));
  read_back : FitRest (many region) (map of_region (take l.region-index l.regions));
}
