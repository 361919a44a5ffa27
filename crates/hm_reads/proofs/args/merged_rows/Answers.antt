use Rattle.std.proofs.Common.{◌||◌, take, ap, ◌∙◌}
use Rattle.std.specs.List.{list_any}
use Rattle.hm_names.specs.Region.{Region}
use Rattle.hm_data.specs.declared.catalog.CatKey.{CatKey}
use Rattle.hm_data.specs.declared.catalog.CatKey.TheVariants as key_is
use Rattle.hm_model.specs.Keys.{same_key}
use Rattle.hm_model.specs.Reads.{is_region, is_table}
use Rattle.hm_catalog.specs.Spans.{rows_of}
use Rattle.hm_reads.proofs.Asked.{none_asked, region_next}
use Rattle.hm_reads.proofs.Inserted.{alike}
use Rattle.hm_reads.proofs.args.merged_rows.Goals as goal

pub loop-region-init : goal.loop-region-init
loop-region-init c = c.new-found.ensures.items ∙ none_asked c.args.catalog.now.rows

pub loop-region-preserved : goal.loop-region-preserved
loop-region-preserved c =
    let rows = c.args.catalog.now.rows in
    let regions = c.args.regions.now in
    let i = c.loop-region.region-index in
    let item = c.region-item.result in
    let before = λ (key : CatKey). list_any (λ r. is_table r.table key || is_region r key) (take i regions) in
    let first = c.in_ok-add.ensures before c.loop-region.invariant in
    let second = c.in_ok-add-2.ensures (λ key. before key || same_key (key_is.Table c.region.inside.table) key) first in
    second
    ∙ ap (λ (region : Region). rows_of (λ key. (before key || same_key (key_is.Table region.table) key) || same_key (key_is.Region item) key) rows) c.region.view_is
    ∙ alike _ _ (region_next regions i item item c.loop-region-test.true c.region-item.is) rows
