use Rattle.std.proofs.Common.{◌≡◌, ◌==◌, take}
use Rattle.std.specs.List.{list_any}
use Rattle.hm_model.specs.Reads.{is_region_in}
use Rattle.hm_catalog.specs.Spans.{rows_of}
use Rattle.hm_reads.proofs.args.numbered_rows.Given as goal

abbrev pub invariant-loop-id : goal.invariant-loop-id
invariant-loop-id l = l.found.items ≡ rows_of (is_region_in l.table (λ id. list_any (λ own. own == id) (take l.id-index l.ids))) l.catalog.rows
