use Rattle.std.proofs.Common.{Some, rules}
use Rattle.std.specs.Ordering.{is_lt}
use Rattle.std.proofs.lemmas.List.Sorted.{IsPartitionPoint-from_clause}
use Rattle.hm_names.specs.Order.{server_cmp}
use Rattle.hm_model.proofs.NameTies.{servers_total}
use Rattle.hm_places.specs.Chosen.{cmp_if}
use Rattle.hm_places.specs.Servers.{address_cmp, name_of}
use Rattle.hm_places.proofs.NameOrder.{total_if}
use Rattle.hm_places.proofs.Runs.{lower_first}
use Rattle.hm_places.proofs.Sorted.{not_falling_by}
use Rattle.hm_places.proofs.There.{addresses_rise, rank}
use Rattle.hm_places.proofs.up.address_from.Goals as goal

pub returns-clause-low : goal.returns-clause-low
returns-clause-low c =
    let rise = not_falling_by (cmp_if server_cmp) (total_if server_cmp servers_total) (name_of c.args.rows.now.came) (λ name. cmp_if address_cmp name (Some c.args.server.now)) (addresses_rise c.args.server.now) c.args.live.now c.requires.rises in
    (IsPartitionPoint-from_clause (λ n. is_lt (rank c.args.rows.now.came c.args.server.now n)) c.args.live.now c.partition_point.result c.partition_point.ensures.partitioned (lower_first (rank c.args.rows.now.came c.args.server.now) c.args.live.now rise) (λ a r h called. search rules)).0

pub returns-clause-high : goal.returns-clause-high
returns-clause-high c =
    let rise = not_falling_by (cmp_if server_cmp) (total_if server_cmp servers_total) (name_of c.args.rows.now.came) (λ name. cmp_if address_cmp name (Some c.args.server.now)) (addresses_rise c.args.server.now) c.args.live.now c.requires.rises in
    (IsPartitionPoint-from_clause (λ n. is_lt (rank c.args.rows.now.came c.args.server.now n)) c.args.live.now c.partition_point.result c.partition_point.ensures.partitioned (lower_first (rank c.args.rows.now.came c.args.server.now) c.args.live.now rise) (λ a r h called. search rules)).1
