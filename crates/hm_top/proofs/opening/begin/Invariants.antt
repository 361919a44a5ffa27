use Rattle.std.proofs.Common.{◌≡◌, ◌≤◌, take}
use Rattle.hm_model.specs.Fleet.{servers_of}
use Rattle.hm_world.specs.Scene.{past_in}
use Rattle.hm_commands.specs.View.{scene_in}
use Rattle.hm_top.specs.Opening.{IsPassing}
use Rattle.hm_top.proofs.Openings.{Keeps}
use Rattle.hm_top.proofs.opening.begin.Given as goal

abbrev pub invariant-loop-place : goal.invariant-loop-place
invariant-loop-place g l = record {
  passing : IsPassing g.K.Sink.tells (g.K.Sink.got l.fn.out) (g.K.Sink.got l.out) (scene_in l.fn.cluster) (take l.place (servers_of (past_in (scene_in l.fn.cluster)))) (scene_in l.cluster);
  keeps : Keeps (scene_in l.fn.cluster) (scene_in l.cluster);
  opened : l.cluster.recorder.opened ≡ l.fn.cluster.recorder.opened;
  sink_later : g.K.Sink.faults l.fn.out ≤ g.K.Sink.faults l.out;
}
