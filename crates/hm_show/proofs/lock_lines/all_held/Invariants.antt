use Rattle.std.specs.Vec.Iter.{into_iter_items}
use Rattle.hm_show.proofs.Held.{AreSoFar}
use Rattle.hm_show.proofs.lock_lines.all_held.Given as goal

abbrev pub invariant-loop-pid : goal.invariant-loop-pid
invariant-loop-pid l = AreSoFar l.records.past (into_iter_items l.pid-iterator) l.locks.items
