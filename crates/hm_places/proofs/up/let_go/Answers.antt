use Rattle.std.proofs.Common.{Some, Err, Ok}
use Rattle.hm_names.specs.Order.{server_cmp}
use Rattle.hm_places.specs.Chosen.{cmp_if}
use Rattle.hm_places.specs.Servers.{name_of}
use Rattle.hm_places.proofs.Live.{let_go-found, let_go-absent}
use Rattle.hm_model.proofs.NameTies.{servers_total}
use Rattle.hm_places.proofs.NameOrder.{total_if}
use Rattle.hm_places.proofs.Sorted.{searched}
use Rattle.hm_places.proofs.up.let_go.Goals as goal

pub returns-in-Ok-clause-live : goal.returns-in-Ok-clause-live
returns-in-Ok-clause-live c =
    let range = rw c.deref.ensures.value at c.in-Ok.ensures.range in
    let position = rw c.deref.ensures.value at c.in-Ok.ensures.position in
    rw c.remove-number.ensures.items
    (let_go-found c.args.rows.now.came c.args.rows.now.pairs c.args.live.now.items c.requires c.args.server.now c.in-Ok.at
    (searched (cmp_if server_cmp) (total_if server_cmp servers_total) (name_of c.args.rows.now.came) (Some c.args.server.now) c.args.live.now.items c.requires.rises (Ok c.in-Ok.at) range position).found)

pub returns-in_default-clause-live : goal.returns-in_default-clause-live
returns-in_default-clause-live c =
    let range = rw c.deref.ensures.value at c.in_default.ensures.range in
    let position = rw c.deref.ensures.value at c.in_default.ensures.position in
    let_go-absent c.args.rows.now.came c.args.rows.now.pairs c.args.live.now.items c.requires c.args.server.now c.in_default.field-0
    (searched (cmp_if server_cmp) (total_if server_cmp servers_total) (name_of c.args.rows.now.came) (Some c.args.server.now) c.args.live.now.items c.requires.rises (Err c.in_default.field-0) range position).absent
