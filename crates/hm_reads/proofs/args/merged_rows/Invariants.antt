use Rattle.std.proofs.Common.{◌≡◌, ◌||◌, take}
use Rattle.std.specs.List.{list_any}
use Rattle.hm_model.specs.Reads.{is_region, is_table}
use Rattle.hm_catalog.specs.Spans.{rows_of}
use Rattle.hm_reads.proofs.args.merged_rows.Given as goal

abbrev pub invariant-loop-region : goal.invariant-loop-region
invariant-loop-region l = l.found.items ≡ rows_of (λ key. list_any (λ region. is_table region.table key || is_region region key) (take l.region-index l.regions)) l.catalog.rows
