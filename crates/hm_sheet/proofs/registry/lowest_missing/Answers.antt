use Rattle.std.proofs.Common.{sym}
use Rattle.hm_sheet.proofs.Copies.{kinds_below}
use Rattle.hm_sheet.proofs.registry.lowest_missing.Goals as goal

pub loop-kind-preserved : goal.loop-kind-preserved
loop-kind-preserved g c = kinds_below _ _ c.loop-kind.invariant (sym c.if-is_missing.ensures)
