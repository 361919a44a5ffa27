use Rattle.std.proofs.Common.{◌≡◌, ℕ, All, map}
use Rattle.hm_sheet.specs.Registry.{IsRegistryBy, sheets_by}
use Rattle.hm_world.specs.Scene.{GoesOn}
use Rattle.hm_commands.specs.Hands.{Ran}
use Rattle.hm_commands.specs.Scenes.{journal_at}
use Rattle.hm_commands.specs.Tasks.{Tasks, left_to_do}
use Rattle.hm_commands.specs.View.{scene_in}
use Rattle.hm_commands.proofs.cluster.Cluster.settle.Given as goal

abbrev pub invariant-loop-why : goal.invariant-loop-why
invariant-loop-why g l = record {
  tasks : (count : ℕ) × Tasks count (scene_in l.fn.self) (scene_in l.self);
  going : GoesOn (scene_in l.self);
  opened : l.self.recorder.opened ≡ l.fn.self.recorder.opened;
  ran : Ran (record {
    before = map (λ r. sheets_by (goal.Handler-dyn g) r) l.fn.hands.items;
    after = map (λ r. sheets_by (goal.Handler-dyn g) r) l.hands.items;
    runs_before = map (λ r. r.runs) l.fn.hands.items;
    runs_after = map (λ r. r.runs) l.hands.items;
  }) (journal_at (scene_in l.fn.self)) (journal_at (scene_in l.self));
  each : All (λ r. IsRegistryBy (goal.Handler-dyn g) r) l.hands.items;
}

abbrev pub decreases-loop-why : goal.decreases-loop-why
decreases-loop-why g l = left_to_do (scene_in l.self)
