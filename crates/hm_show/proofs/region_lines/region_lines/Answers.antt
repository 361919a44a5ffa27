use Rattle.std.proofs.Common.{◌≡◌, ◌≤◌, length, ap, sym, ◌∙◌, subst}
use Rattle.std.specs.List.{filter_map}
use Rattle.hm_places.specs.Places.{place_in}
use Rattle.hm_show.specs.Lines.{AreLinesBut}
use Rattle.hm_show.specs.Regions.{key_line}
use Rattle.hm_show.proofs.RegionRows.{no_more, others_add_none, region_rows}
use Rattle.hm_show.proofs.Rest.{but_all, none_few}
use Rattle.hm_show.proofs.region_lines.region_lines.Goals as goal

pub loop-key-init : goal.loop-key-init
loop-key-init c =
    let rows = c.args.catalog.now.rows in
    let place = place_in c.args.places.now.places in
    let kept = c.new-lines.result in
    let shown : region_rows rows ≡ c.into_iter-key-iterator.result = sym (c.into_iter-key-iterator.ensures.into_iter_gives ∙ c.rows_of-key-items.ensures) in
    let all = filter_map (key_line place) rows in
    record {
      rest = subst (λ l. AreLinesBut l all kept) (sym (others_add_none place rows) ∙ ap (filter_map (key_line place)) shown) (but_all all kept c.new-lines.ensures);
      few = none_few kept _ _ c.new-lines.ensures (subst (λ l. length l ≤ length rows) shown (no_more rows));
    }
