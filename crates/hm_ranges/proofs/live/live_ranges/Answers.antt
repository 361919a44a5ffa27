use Rattle.std.proofs.Common.{List, map, subst}
use Rattle.std.specs.List.Sorted.{IsPermutation}
use Rattle.std.proofs.lemmas.List.Sorted.{IsPermutation-map}
use Rattle.hm_names.specs.declared.range.KeyRange.{KeyRange}
use Rattle.hm_ranges.proofs.live.live_ranges.Goals as goal

pub returns-clause-same : goal.returns-clause-same
returns-clause-same c =
    let new = c.sort_ranges.new.ranges.items in
    subst (λ (own : List KeyRange). IsPermutation own (map (λ range. range.now) new)) c.in_ok-ranges.ensures
    (IsPermutation-map (λ range. range.now) c.in_ok-ranges.ranges.items new c.sort_ranges.ensures.same)
