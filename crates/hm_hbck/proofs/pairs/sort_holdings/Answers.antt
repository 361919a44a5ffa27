use Rattle.std.proofs.Common.{rules}
use Rattle.std.proofs.lemmas.Fn.{always_returns_same}
use Rattle.std.proofs.lemmas.List.Sorted.{IsPermutation-map, sorted_far}
use Rattle.std.proofs.lemmas.Result.{on_ok_weaker}
use Rattle.hm_ranges.proofs.Lists.{in_unmoved}
use Rattle.hm_hbck.specs.Found.{hold_of, holds_of}
use Rattle.hm_hbck.proofs.Meeting.{comes_first, each_ends, in_order, starts_order}
use Rattle.hm_hbck.proofs.pairs.sort_holdings.Goals as goal

pub returns-clause-sorted : goal.returns-clause-sorted
returns-clause-sorted c =
    let old = c.args.list.now.items in
    let new = c.sort_by.new.self.items in
    let moved = IsPermutation-map hold_of old new c.sort_by.ensures.permutation in
    on_ok_weaker c.sort_by.result
    (λ sorted. each_ends (holds_of new) (in_order new (λ i j d le within. sorted_far comes_first starts_order new (sorted comes_first starts_order (always_returns_same _ _ _ (λ a r f k. search rules))) i j d le within))
    (λ one other there too same. c.requires one other (in_unmoved (holds_of old) (holds_of new) moved one there) (in_unmoved (holds_of old) (holds_of new) moved other too) same))
    c.sort_by.ensures.sorted
