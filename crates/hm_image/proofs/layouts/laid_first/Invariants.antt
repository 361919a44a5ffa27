use Rattle.std.proofs.Common.{take}
use Rattle.hm_image.specs.Layouts.{AreOfBase}
use Rattle.hm_image.proofs.layouts.laid_first.Given as goal

abbrev pub invariant-loop-root : goal.invariant-loop-root
invariant-loop-root l =
    AreOfBase (take l.root-index l.roots) l.laid.pairs
