use Rattle.std.proofs.Common.{◌≡◌, ◌++◌, drop, map}
use Rattle.hm_balance.specs.Plan.{by_load}
use Rattle.hm_balance.proofs.share.sorted_by_load.Given as goal

abbrev pub invariant-loop-name : goal.invariant-loop-name
invariant-loop-name l = l.servers.items ++ map by_load (drop l.name-index l.loads) ≡ map by_load l.loads
