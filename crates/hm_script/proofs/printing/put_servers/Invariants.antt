use Rattle.std.proofs.Common.{◌≡◌, ◌++◌, map, take}
use Rattle.std.specs.List.{flat_map}
use Rattle.hm_script.specs.Printing.{FitRest}
use Rattle.hm_script.specs.Shapes.{many}
use Rattle.hm_script.specs.Spellings.{behind_space}
use Rattle.hm_script.specs.Values.{server, of_server}
use Rattle.hm_script.proofs.printing.put_servers.Given as goal

abbrev pub invariant-loop-server : goal.invariant-loop-server
invariant-loop-server l = record {
  written : l.out.items ≡ l.fn.out.items ++ flat_map behind_space (map of_server (take l.server-index l.servers));
  read_back : FitRest (many server) (map of_server (take l.server-index l.servers));
}
