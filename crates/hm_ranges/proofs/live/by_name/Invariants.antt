use Rattle.std.proofs.Common.{◌≡◌, ◌++◌, map, Some}
use Rattle.std.specs.List.{filter_map}
use Rattle.hm_ranges.specs.Live.{live_in, ranges_in}
use Rattle.hm_ranges.proofs.live.by_name.Given as goal

abbrev pub invariant-loop-key : goal.invariant-loop-key
invariant-loop-key l =
    map (λ range. range.now) l.ranges.items ++ filter_map (λ row. live_in (Some row.1)) l._key-iterator ≡ ranges_in l.catalog.rows l.table
