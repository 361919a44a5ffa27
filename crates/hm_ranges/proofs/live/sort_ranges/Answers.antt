use Rattle.std.proofs.Common.{rules}
use Rattle.std.proofs.lemmas.Fn.{always_returns_same}
use Rattle.std.proofs.lemmas.List.Sorted.{sorted_far}
use Rattle.std.proofs.lemmas.Result.{on_ok_weaker}
use Rattle.hm_ranges.proofs.Sorted.{starts_first, starts_rise, starts_weak}
use Rattle.hm_ranges.proofs.live.sort_ranges.Goals as goal

pub returns-clause-sorted : goal.returns-clause-sorted
returns-clause-sorted c =
    let new = c.sort_by.new.self.items in
    on_ok_weaker c.sort_by.result
    (λ sorted. starts_rise (λ range. range.now) new (λ i j d le within. sorted_far (starts_first (λ range. range.now)) (starts_weak (λ range. range.now)) new (sorted (starts_first (λ range. range.now)) (starts_weak (λ range. range.now)) (always_returns_same _ _ _ (λ a r f k. search rules))) i j d le within))
    c.sort_by.ensures.sorted
