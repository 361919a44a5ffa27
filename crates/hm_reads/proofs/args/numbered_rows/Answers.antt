use Rattle.std.proofs.Common.{◌==◌, take, ◌∙◌}
use Rattle.std.specs.List.{list_any}
use Rattle.hm_model.specs.Reads.{is_region_in}
use Rattle.hm_reads.proofs.Asked.{no_numbers, number_next}
use Rattle.hm_reads.proofs.Inserted.{alike}
use Rattle.hm_reads.proofs.args.numbered_rows.Goals as goal

pub loop-id-init : goal.loop-id-init
loop-id-init c = c.new-found.ensures.items ∙ no_numbers c.args.table.now c.args.catalog.now.rows

pub loop-id-preserved : goal.loop-id-preserved
loop-id-preserved c =
    let table = c.args.table.now in
    let ids = c.args.ids.now in
    let i = c.loop-id.id-index in
    let added = c.in_ok-add.ensures (is_region_in table (λ id. list_any (λ own. own == id) (take i ids))) c.loop-id.invariant in
    added ∙ alike _ _ (number_next table ids i c.loop-id-test.true) c.args.catalog.now.rows
