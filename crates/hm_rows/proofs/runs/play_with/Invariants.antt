use Rattle.std.proofs.Common.{All}
use Rattle.hm_sheet.specs.Registry.{IsRegistryBy}
use Rattle.hm_rows.proofs.runs.play_with.Given as goal

abbrev pub invariant-loop-handlers : goal.invariant-loop-handlers
invariant-loop-handlers g l =
    All (λ r. IsRegistryBy (goal.Handler-dyn g) r) l.hands.items
