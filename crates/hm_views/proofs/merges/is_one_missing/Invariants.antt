use Rattle.std.proofs.Common.{◌≡◌, drop, is_none}
use Rattle.std.specs.List.{list_any}
use Rattle.hm_model.specs.Catalog.{row_at}
use Rattle.hm_model.specs.Checks.{rows_of}
use Rattle.hm_model.specs.RowsSaid.{status_in}
use Rattle.hm_views.proofs.merges.is_one_missing.Given as goal

abbrev pub invariant-loop-region : goal.invariant-loop-region
invariant-loop-region l =
    list_any (λ row. is_none (status_in row)) (rows_of (row_at l.rows) (drop l.region-index l.regions))
    ≡ list_any (λ row. is_none (status_in row)) (rows_of (row_at l.rows) l.regions)
