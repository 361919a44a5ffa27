use Rattle.std.proofs.Common.{◌≡◌, take}
use Rattle.hm_model.specs.Catalog.{row_at}
use Rattle.hm_model.specs.Changes.{mark_merged}
use Rattle.hm_catalog.proofs.merges.mark_merged.Given as goal

abbrev pub invariant-loop-region : goal.invariant-loop-region
invariant-loop-region l = l.edits.items ≡ mark_merged (row_at l.catalog.rows) (take l.region-index l.regions)
