use Rattle.std.proofs.Common.{rules}
use Rattle.std.proofs.lemmas.List.Sorted.{IsPartitionPoint-from_clause}
use Rattle.std.specs.Ordering.{is_lt}
use Rattle.hm_names.specs.Order.{bytes_cmp}
use Rattle.hm_ranges.proofs.Apart.{apart_rise, lower_first}
use Rattle.hm_ranges.proofs.spot.starting_before.Goals as goal

pub returns-clause-point : goal.returns-clause-point
returns-clause-point c =
    IsPartitionPoint-from_clause (λ own. is_lt (bytes_cmp own.start c.args.key.now)) c.args.ranges.now c.partition_point.result c.partition_point.ensures.partitioned (lower_first c.args.key.now c.args.ranges.now (apart_rise c.args.ranges.now c.requires)) (λ a r h called. search rules)
