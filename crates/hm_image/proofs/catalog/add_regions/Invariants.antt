use Rattle.std.proofs.Common.{◌≡◌, ◌++◌}
use Rattle.std.specs.List.{flat_map}
use Rattle.hm_image.specs.Catalog.{region_parts}
use Rattle.hm_image.proofs.catalog.add_regions.Given as goal

abbrev pub invariant-loop-key : goal.invariant-loop-key
invariant-loop-key l =
    l.parts.items ++ flat_map (λ row. region_parts l.places.places row.0 row.1) l.key-iterator ≡ l.initial.parts.items ++ flat_map (λ row. region_parts l.places.places row.0 row.1) l.catalog.rows
