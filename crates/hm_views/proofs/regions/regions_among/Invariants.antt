use Rattle.std.proofs.Common.{◌≡◌, ◌++◌, drop}
use Rattle.hm_model.specs.RowsSaid.{regions_among}
use Rattle.hm_views.specs.Runs.{row_counts}
use Rattle.hm_views.proofs.regions.regions_among.Given as goal

abbrev pub invariant-loop-key : goal.invariant-loop-key
invariant-loop-key l =
    l.regions.items ++ regions_among l.table (row_counts l.only_live) (drop l.key-index l.rows)
    ≡ regions_among l.table (row_counts l.only_live) l.rows
