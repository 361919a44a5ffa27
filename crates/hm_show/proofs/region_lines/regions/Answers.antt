use Rattle.std.proofs.Common.{codes, ap, ◌∙◌}
use Rattle.std.specs.List.{filter_map}
use Rattle.hm_catalog.specs.Rows.{rows_in}
use Rattle.hm_model.specs.Places.{place_of}
use Rattle.hm_model.specs.Loads.{places_of}
use Rattle.hm_places.specs.Places.{place_in}
use Rattle.hm_show.specs.Regions.{key_line}
use Rattle.hm_show.proofs.RegionRows.{line_by}
use Rattle.hm_show.proofs.Tables.{table_said}
use Rattle.hm_show.proofs.region_lines.regions.Goals as goal

pub returns : goal.returns
returns c =
    let past = c.args.records.now.past in
    table_said (codes "regions") past c.args.entries _ _ c.in_ok-region_lines.field-0 c.into_table.result c.requires c.in_ok-region_lines.ensures
    (ap (λ places. filter_map (key_line (place_in places)) c.catalog.result.now.rows) c.places.ensures
    ∙ ap (filter_map (key_line (place_in (places_of past)))) c.catalog.ensures
    ∙ line_by (place_in (places_of past)) (place_of past) (c.places_follow.ensures.tell past).0 (rows_in past))
    c.into_table.ensures
