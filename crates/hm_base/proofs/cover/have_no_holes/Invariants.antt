use Rattle.std.proofs.Common.{◌↔◌}
use Rattle.std.specs.List.{AllByRecursion}
use Rattle.hm_base.specs.Whole.{HasNoHole}
use Rattle.hm_base.proofs.cover.have_no_holes.Given as goal

abbrev pub invariant-loop-key : goal.invariant-loop-key
invariant-loop-key l =
    AllByRecursion (λ row. HasNoHole l.catalog.rows row.0) l.key-iterator ↔ AllByRecursion (λ row. HasNoHole l.catalog.rows row.0) l.catalog.rows
