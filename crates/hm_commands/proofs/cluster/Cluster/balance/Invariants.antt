use Rattle.std.proofs.Common.{◌≡◌, ◌++◌, length}
use Rattle.std.specs.Vec.Iter.{into_iter_items, into_iter_len}
use Rattle.hm_moves.specs.Planned.{ArePlanned}
use Rattle.hm_commands.specs.View.{scene_in}
use Rattle.hm_commands.proofs.Moving.{SoFar}
use Rattle.hm_world.specs.Scene.{past_in}
use Rattle.hm_commands.proofs.cluster.Cluster.balance.Given as goal

abbrev pub invariant-loop-one : goal.invariant-loop-one
invariant-loop-one g l = record {
  moved : SoFar l.shifts l.yielded (scene_in l.fn.self) (scene_in l.self) l.text.items;
  planned : ArePlanned (past_in (scene_in l.fn.self)) l.shifts (l.yielded ++ into_iter_items l.one-iterator);
  counted : into_iter_len l.one-iterator ≡ length (into_iter_items l.one-iterator);
  opened : l.self.recorder.opened ≡ l.fn.self.recorder.opened;
}
