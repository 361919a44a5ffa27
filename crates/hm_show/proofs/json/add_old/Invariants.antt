use Rattle.std.proofs.Common.{◌≡◌, ◌++◌, map, take}
use Rattle.serde_json.specs.View.{view}
use Rattle.hm_show.specs.Procs.{proc_value}
use Rattle.hm_show.proofs.json.add_old.Given as goal

abbrev pub invariant-loop-one : goal.invariant-loop-one
invariant-loop-one l = map view l.values.items ≡ map view l.fn.values.items ++ map proc_value (take l.one-index l.old)
