use Rattle.std.proofs.Common.{◌≡◌, Some, Err, Ok, true, false, sym, ◌∙◌, map}
use Rattle.hm_names.specs.Order.{server_cmp}
use Rattle.hm_places.specs.Chosen.{cmp_if}
use Rattle.hm_places.specs.Servers.{name_of}
use Rattle.hm_model.proofs.NameTies.{servers_total}
use Rattle.hm_places.proofs.NameOrder.{total_if}
use Rattle.hm_places.proofs.Sorted.{searched, at-has}
use Rattle.hm_places.proofs.up.spot_for.Goals as goal

pub unreachable-requires : goal.unreachable-requires
unreachable-requires c =
    let there = (searched (cmp_if server_cmp) (total_if server_cmp servers_total) (name_of c.args.rows.now.came) (Some c.args.server.now) c.args.live.now c.requires.live.rises (Ok c.in-Ok.field-0) c.in-Ok.ensures.range c.in-Ok.ensures.position).found in
    let e : true ≡ false = sym (at-has (cmp_if server_cmp) (total_if server_cmp servers_total) (Some c.args.server.now) (map (name_of c.args.rows.now.came) c.args.live.now) c.in-Ok.field-0 there) ∙ c.requires.live.are (Some c.args.server.now) ∙ c.requires.absent in
    cc

pub returns : goal.returns
returns c =
    (searched (cmp_if server_cmp) (total_if server_cmp servers_total) (name_of c.args.rows.now.came) (Some c.args.server.now) c.args.live.now c.requires.live.rises (Err c.in-Err.at) c.in-Err.ensures.range c.in-Err.ensures.position).absent
