use Rattle.std.proofs.Common.{◌≡◌, ◌++◌}
use Rattle.std.specs.List.{flat_map}
use Rattle.hm_image.specs.Layouts.{layout_told}
use Rattle.hm_image.proofs.layouts.add_laid.Given as goal

abbrev pub invariant-loop-pid : goal.invariant-loop-pid
invariant-loop-pid l =
    l.parts.items ++ flat_map layout_told l.pid-iterator ≡ l.initial.parts.items ++ flat_map layout_told l.laid.pairs
