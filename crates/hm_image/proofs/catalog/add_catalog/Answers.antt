use Rattle.std.proofs.lemmas.Result.{on_ok_weaker}
use Rattle.hm_image.proofs.Keys.{catalog_added}
use Rattle.hm_image.proofs.catalog.add_catalog.Goals as goal

pub returns : goal.returns
returns c =
    on_ok_weaker c.add_regions.result
    (λ is. catalog_added c.args.records.now.past c.drawn_tables-tables.result c.len-rising.ensures.rising c.drawn_tables-tables.ensures
    c.procedures-legal.ensures.legal c.requires.begun c.requires.settled c.live_regions_cover.ensures c.region_ids_are_drawn.ensures
    c.catalog-catalog.result.now.rows c.places.result.now.places c.catalog-catalog.ensures c.places.ensures c.rows_tell.ensures.rows c.places_follow.ensures.tell
    c.args.parts.now.items c.add_spaces.new.parts.items c.add_tables.new.parts.items c.add_regions.new.parts.items c.in_ok-add_spaces.ensures c.in_ok-add_tables.ensures is)
    c.add_regions.ensures
