use Rattle.std.proofs.Common.{Some, Err, Ok}
use Rattle.hm_places.specs.Chosen.{cmp_if}
use Rattle.hm_places.specs.Places.{held_cmp, key_of}
use Rattle.hm_places.proofs.AtServers.{must_not_stand}
use Rattle.hm_places.proofs.NameOrder.{held_total, total_if}
use Rattle.hm_places.proofs.Sorted.{searched}
use Rattle.hm_places.proofs.held.spot_for.Goals as goal

pub unreachable-requires : goal.unreachable-requires
unreachable-requires c =
    must_not_stand c.args.rows.now.came c.args.rows.now.pairs c.args.held.now c.args.region.now c.in_ok-server.server.now c.in-Ok.field-0 c.requires
    (searched (cmp_if held_cmp) (total_if held_cmp held_total) (key_of c.args.rows.now.came) (Some (c.in_ok-server.server.now, c.args.region.now)) c.args.held.now c.requires.rises (Ok c.in-Ok.field-0) c.in-Ok.ensures.range c.in-Ok.ensures.position).found

pub returns : goal.returns
returns c =
    rw (← c.in_ok-server.ensures)
    ((searched (cmp_if held_cmp) (total_if held_cmp held_total) (key_of c.args.rows.now.came) (Some (c.in_ok-server.server.now, c.args.region.now)) c.args.held.now c.requires.rises (Err c.in-Err.at) c.in-Err.ensures.range c.in-Err.ensures.position).absent)
