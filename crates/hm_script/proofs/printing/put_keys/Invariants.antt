use Rattle.std.proofs.Common.{◌≡◌, ◌++◌, map, take}
use Rattle.std.specs.List.{flat_map}
use Rattle.hm_script.specs.Printing.{FitRest}
use Rattle.hm_script.specs.Shapes.{many}
use Rattle.hm_script.specs.Spellings.{behind_space}
use Rattle.hm_script.specs.Values.{key, of_key}
use Rattle.hm_script.proofs.printing.put_keys.Given as goal

abbrev pub invariant-loop-key : goal.invariant-loop-key
invariant-loop-key l = record {
  written : l.out.items ≡ l.fn.out.items ++ flat_map behind_space (map of_key (take l.key-index l.keys));
  read_back : FitRest (many key) (map of_key (take l.key-index l.keys));
}
