use Rattle.std.proofs.Common.{◌≡◌, ◌++◌}
use Rattle.std.specs.List.{flat_map}
use Rattle.hm_image.specs.Catalog.{space_parts}
use Rattle.hm_image.proofs.catalog.add_spaces.Given as goal

abbrev pub invariant-loop-key : goal.invariant-loop-key
invariant-loop-key l =
    l.parts.items ++ flat_map (λ row. space_parts row.0) l.key-iterator ≡ l.initial.parts.items ++ flat_map (λ row. space_parts row.0) l.catalog.rows
