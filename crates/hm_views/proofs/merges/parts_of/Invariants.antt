use Rattle.std.proofs.Common.{◌≡◌, ◌++◌, drop}
use Rattle.hm_model.specs.Catalog.{row_at}
use Rattle.hm_model.specs.Checks.{parts_of}
use Rattle.hm_views.proofs.merges.parts_of.Given as goal

abbrev pub invariant-loop-region : goal.invariant-loop-region
invariant-loop-region l =
    l.parts.items ++ parts_of (row_at l.rows) (drop l.region-index l.regions)
    ≡ parts_of (row_at l.rows) l.regions
