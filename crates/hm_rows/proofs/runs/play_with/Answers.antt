use Rattle.std.proofs.Common.{All, sym, subst}
use Rattle.std.proofs.lemmas.List.Elements.{All-push}
use Rattle.hm_sheet.specs.Registry.{IsRegistryBy}
use Rattle.hm_rows.proofs.runs.play_with.Goals as goal

pub loop-handlers-preserved : goal.loop-handlers-preserved
loop-handlers-preserved g c =
    let Made = λ (r : _). IsRegistryBy (goal.Handler-dyn g) r in
    subst (All Made) (sym c.in_ok-push.ensures.items) (All-push Made _ _ c.loop-handlers.invariant c.in-Ok.ensures.lists)
