use Rattle.std.proofs.Common.{◌++◌, map}
use Rattle.serde_json.specs.View.{view}
use Rattle.hm_show.specs.Procs.{made_behind, proc_value}
use Rattle.hm_show.proofs.Values.{SoFar}
use Rattle.hm_show.proofs.json.add_made.Given as goal

abbrev pub invariant-loop-index : goal.invariant-loop-index
invariant-loop-index l =
    SoFar l.procedures.past l.index l.count l.values.items (map view l.fn.values.items ++ map proc_value (made_behind l.procedures.past))
