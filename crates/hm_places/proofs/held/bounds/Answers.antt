use Rattle.std.proofs.Common.{rules}
use Rattle.std.specs.Ordering.{is_le, is_lt}
use Rattle.std.proofs.lemmas.List.Sorted.{IsPartitionPoint-from_clause}
use Rattle.hm_places.specs.Chosen.{cmp_if}
use Rattle.hm_places.specs.Places.{held_cmp, key_of, side}
use Rattle.hm_places.proofs.Runs.{lower_first, upper_last, sides_rise}
use Rattle.hm_places.proofs.NameOrder.{held_total, total_if}
use Rattle.hm_places.proofs.Sorted.{not_falling_by}
use Rattle.hm_places.proofs.held.bounds.Goals as goal

pub returns-clause-splits : goal.returns-clause-splits
returns-clause-splits c =
    let server = c.args.server.now in
    let f = key_of c.args.rows.now.came in
    let rise = not_falling_by (cmp_if held_cmp) (total_if held_cmp held_total) (key_of c.args.rows.now.came) (side c.args.server.now) (sides_rise c.args.server.now) c.args.held.now c.requires.rises in
    let low = IsPartitionPoint-from_clause (λ n. is_lt (side c.args.server.now (key_of c.args.rows.now.came n))) c.args.held.now c.partition_point-from.result c.partition_point-from.ensures.partitioned (lower_first (λ n. side c.args.server.now (key_of c.args.rows.now.came n)) c.args.held.now rise) (λ a r h called. search rules) in
    let high = IsPartitionPoint-from_clause (λ n. is_le (side c.args.server.now (key_of c.args.rows.now.came n))) c.args.held.now c.partition_point-to.result c.partition_point-to.ensures.partitioned (upper_last (λ n. side c.args.server.now (key_of c.args.rows.now.came n)) c.args.held.now rise) (λ a r h called. search rules) in
    record { low = low.0; not_low = low.1; not_high = high.0; high = high.1 }
