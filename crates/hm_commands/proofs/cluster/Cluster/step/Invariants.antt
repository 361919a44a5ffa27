use Rattle.std.proofs.Common.{◌≡◌, ◌-◌, ◌≤◌, All, map}
use Rattle.hm_sheet.specs.Registry.{IsRegistryBy, sheets_by}
use Rattle.hm_world.specs.Scene.{GoesOn}
use Rattle.hm_commands.specs.Hands.{Ran}
use Rattle.hm_commands.specs.Scenes.{journal_at}
use Rattle.hm_commands.specs.Tasks.{Tasks}
use Rattle.hm_commands.specs.View.{scene_in}
use Rattle.hm_commands.proofs.cluster.Cluster.step.Given as goal

abbrev pub invariant-loop-done : goal.invariant-loop-done
invariant-loop-done g l = record {
  tasks : Tasks l.done (scene_in l.fn.self) (scene_in l.self);
  within : l.done ≤ l.most;
  going : GoesOn (scene_in l.self);
  opened : l.self.recorder.opened ≡ l.fn.self.recorder.opened;
  ran : Ran (record {
    before = map (λ r. sheets_by (goal.Handler-dyn g) r) l.fn.hands.items;
    after = map (λ r. sheets_by (goal.Handler-dyn g) r) l.hands.items;
    runs_before = map (λ r. r.runs) l.fn.hands.items;
    runs_after = map (λ r. r.runs) l.hands.items;
  }) (journal_at (scene_in l.fn.self)) (journal_at (scene_in l.self));
  each : All (λ r. IsRegistryBy (goal.Handler-dyn g) r) l.hands.items;
}

abbrev pub decreases-loop-done : goal.decreases-loop-done
decreases-loop-done g l = l.most - l.done
